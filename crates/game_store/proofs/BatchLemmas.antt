-- What a batch makes of a database, an entry more.
use Rattle.std.proofs.Common.{◌≡◌, ◌<◌, ◌^◌, ◌+◌, ℕ, List, [], ◌∷◌, ◌++◌, length, take, get_or, cond, Some, refl, sym, ap, ◌∙◌}
use Rattle.std.proofs.lemmas.Grind.{fold-append}
use Rattle.std.proofs.lemmas.List.{take_more}
use Rattle.std.specs.Str.{bytes_eq}
use Rattle.sqlite.specs.Effect.{Database}
use Rattle.sqlite.specs.State.{State}
use Rattle.system_io.specs.declared.record_store.Entry.{Entry}
use Rattle.system_io.specs.Records.{Records, entry_record, with_entry, with_all}
use Rattle.game_store.specs.Rows.{AreApart, Numbers, games_in}
use Rattle.game_store.specs.Batches.{Becomes, HasRows, PutsRow}
use Rattle.game_store.proofs.PutLemmas.{put_rows}

pub becomes_none : (numbers : Numbers) (db : Database) → HasRows numbers db → Becomes numbers [] db db
becomes_none numbers db has = record { has = has; games = λ s. refl }

pub becomes_more : (numbers : Numbers) → AreApart numbers → (entries : List Entry) (i : ℕ) (e : Entry) (number : ℕ) → i < length entries → e ≡ get_or entries i e → numbers e.stamp ≡ Some number
    → length e.stamp ≡ 16 → number < 2 ^ 32 → e.count < 2 ^ 32 → (old : Database) (mid new : State) → Becomes numbers (take i entries) old mid.now → PutsRow number e mid new
    → Becomes numbers (take (i + 1) entries) old new.now
becomes_more numbers apart entries i e number within is has whole low few old mid new before put =
    let rows = put_rows numbers apart number e has whole low few (mid.now.trees 0) (new.now.trees 0) before.has.rows put.put in
    let all : take (i + 1) entries ≡ take i entries ++ e ∷ [] = take_more entries i e within ∙ ap (λ x. take i entries ++ x ∷ []) (sym is) in
    let games : Records = games_in (old.trees 0) in
    record {
      has = record { schema = put.schema; sound = put.sound; rows = rows.0 };
      games = λ s. rows.1 s ∙ ap (cond (bytes_eq e.stamp s) (Some (entry_record e))) (before.games s)
          ∙ ap (λ (f : Records). f s) (sym (ap (with_all games) all ∙ fold-append with_entry games (take i entries) (e ∷ [])));
    }
