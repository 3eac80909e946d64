-- What memory and the database have once a batch is put.
use Rattle.std.proofs.Common.{◌≡◌, inl, inr, ◌⊎◌, ℕ, List, [], ◌∷◌, IsTrue, refl, sym, subst, subst₂, ◌∙◌, arith}
use Rattle.sqlite.proofs.StateLemmas.{survives_weaker}
use Rattle.sqlite.specs.Order.{Row}
use Rattle.sqlite.specs.Tree.{Trees}
use Rattle.sqlite.specs.Effect.{Database}
use Rattle.sqlite.specs.State.{State, HasCleanDisk, Survives}
use Rattle.system_io.specs.declared.record_store.Entry.{Entry}
use Rattle.system_io.specs.Records.{Records, with_all, AreSame}
use Rattle.game_store.specs.Rows.{AreRows, IsRow, Numbers, games_in}
use Rattle.game_store.specs.Slots.{Slots, HasSame, KeepsNumbers, game_at, number_at}
use Rattle.game_store.specs.Batches.{Becomes, HasRows}
use Rattle.game_store.specs.Shelves.{HoldsGames, Mirrors}
use Rattle.game_store.proofs.SlotLemmas.{with_all_same}
use Rattle.game_store.proofs.ShelfLemmas.{apart}

row_stays : (old new : Slots) → KeepsNumbers old new → (r : Row) → IsRow (number_at old) r → IsRow (number_at new) r
row_stays old new keeps r row = record {
  stamp = row.stamp;
  number = row.number;
  count = row.count;
  text = row.text;
  numbered = keeps row.stamp row.number row.numbered;
  whole = row.whole;
  low = row.low;
  few = row.few;
  id_is = row.id_is;
  stamp_is = row.stamp_is;
  count_is = row.count_is;
  text_is = row.text_is;
}

rows_stay : (old new : Slots) → KeepsNumbers old new → (rows : List Row) → AreRows (number_at old) rows → AreRows (number_at new) rows
rows_stay old new keeps [] all = tt
rows_stay old new keeps (r ∷ rows) all = (row_stays old new keeps r all.0, rows_stay old new keeps rows all.1)

pub has_stays : (old new : Slots) (db : Database) → KeepsNumbers old new → HasRows (number_at old) db → HasRows (number_at new) db
has_stays old new db keeps has = record { schema = has.schema; sound = has.sound; rows = rows_stay old new keeps (db.trees 0) has.rows }

-- more games have numbers
pub mirrors_more : (old new : Slots) (db : Database) → KeepsNumbers old new → HasSame old new → Mirrors old db → Mirrors new db
mirrors_more old new db keeps same m = record { has = has_stays old new db keeps m.has; games = λ stamp. same stamp ∙ m.games stamp }

-- memory keeps what was committed
pub mirrors_batch : (before numbered after : Slots) (entries : List Entry) (old new : Database) → Mirrors before old → HasSame before numbered
    → ((stamp : List ℕ) → number_at after stamp ≡ number_at numbered stamp) → ((stamp : List ℕ) → game_at after stamp ≡ with_all (game_at numbered) entries stamp)
    → Becomes (number_at numbered) entries old new → Mirrors after new
mirrors_batch before numbered after entries old new m same numbers games becomes = record {
  has = has_stays numbered after new (λ stamp n has. numbers stamp ∙ has) becomes.has;
  games = λ stamp. games stamp ∙ with_all_same (game_at numbered) (games_in (old.trees 0)) entries (λ q. same q ∙ m.games q) stamp ∙ sym (becomes.games stamp);
}

pub holds_own : (numbers : Numbers) (db : Database) → HasRows numbers db → HoldsGames db.trees (games_in (db.trees 0))
holds_own numbers db has = inl (has.sound, (numbers, has.rows), λ stamp. refl)

pub holds_batch : (numbers : Numbers) (entries : List Entry) (old : Database) (trees : Trees) → (db : Database) × Becomes numbers entries old db × (trees ≡ db.trees)
    → HoldsGames trees (with_all (games_in (old.trees 0)) entries)
holds_batch numbers entries old trees it =
    subst (λ (t : Trees). HoldsGames t (with_all (games_in (old.trees 0)) entries)) (sym it.2) (inl (it.1.has.sound, (numbers, it.1.has.rows), it.1.games))

-- a database holds one choice of games
pub one_choice : (db : Trees) (a b : Records) → HoldsGames db a → HoldsGames db b → AreSame a b
one_choice db a b (inl x) (inl y) = λ stamp. sym (x.2 stamp) ∙ y.2 stamp
one_choice db a b (inl x) (inr y) = absurd (apart db x.0 y.0)
one_choice db a b (inr x) (inl y) = absurd (apart db y.0 x.0)
one_choice db a b (inr x) (inr y) = λ stamp. x.1 stamp ∙ sym (y.1 stamp)

-- and those of another one are no more than its own
pub holds_same : (db : Trees) (a b : Records) → AreSame b a → HoldsGames db a → HoldsGames db b
holds_same db a b same (inl x) = inl (x.0, x.1, λ stamp. x.2 stamp ∙ sym (same stamp))
holds_same db a b same (inr x) = inr (x.0, λ stamp. same stamp ∙ x.1 stamp)

-- a stop at rest leaves the games that are committed
pub leaves_own : (numbers : Numbers) (s : State) → ((db : Trees) → s.may_leave db → db ≡ s.committed.trees) → HasRows numbers s.committed
    → (db : Trees) → s.may_leave db → HoldsGames db (games_in (s.committed.trees 0))
leaves_own numbers s law has db may = subst (λ (t : Trees). HoldsGames t (games_in (s.committed.trees 0))) (sym (law db may)) (holds_own numbers s.committed has)

-- and one in a call the same, or what the call commits
pub leaves_either : (numbers : Numbers) (old new : State) (P : Trees → Type 0) → ((db : Trees) → old.may_leave db → db ≡ old.committed.trees) → HasRows numbers old.committed
    → Survives old new P → HasCleanDisk new → (db : Trees) → new.may_leave db → HoldsGames db (games_in (old.committed.trees 0)) ⊎ P db
leaves_either numbers old new P law has survives clean db may = elim (survives.crash clean db may) [
  | inl before ↦ inl (leaves_own numbers old law has db before)
  | inr made ↦ inr made
]

-- the rows of a database that is at rest are ready for a batch
pub ready : (old : State) (before numbered : Slots) → Mirrors before old.committed → KeepsNumbers before numbered → old.now ≡ old.committed → HasRows (number_at numbered) old.now
ready old before numbered m keeps settled = subst (HasRows (number_at numbered)) (sym settled) (has_stays before numbered old.committed keeps m.has)

module _ (old : State) (before numbered : Slots) (entries slice : List Entry) (given : slice ≡ entries) (keeps : KeepsNumbers before numbered) where
  pub put_done : (new : Database) → Mirrors before old.committed → old.now ≡ old.committed → (HasRows (number_at numbered) old.now → Becomes (number_at numbered) slice old.now new)
      → Becomes (number_at numbered) entries old.committed new
  put_done new m settled all =
      subst₂ (λ (d : Database) (es : List Entry). Becomes (number_at numbered) es d new) settled given (all (ready old before numbered m keeps settled))

  pub put_crash : (new : State) → (HasCleanDisk old → IsTrue old.is_open → Mirrors before old.committed) → (IsTrue old.is_open → old.now ≡ old.committed)
      → Survives old new (λ trees. HasRows (number_at numbered) old.now → (db : Database) × Becomes (number_at numbered) slice old.now db × (trees ≡ db.trees))
      → Survives old new (λ db. IsTrue old.is_open → HoldsGames db (with_all (games_in (old.committed.trees 0)) entries))
  put_crash new mirrors settled survives = survives_weaker old new _ _ (λ clean trees made is_open.
      let early : HasCleanDisk old = omega (arith, survives.clean) in
      let m = mirrors early is_open in
      let it = made (ready old before numbered m keeps (settled is_open)) in
      holds_batch (number_at numbered) entries old.committed trees (it.0, put_done it.0 m (settled is_open) (λ has. it.1), it.2)) survives

  pub put_stops : (new : State) → (HasCleanDisk old → IsTrue old.is_open → Mirrors before old.committed) → (IsTrue old.is_open → old.now ≡ old.committed)
      → Survives old new (λ trees. HasRows (number_at numbered) old.now → (db : Database) × Becomes (number_at numbered) slice old.now db × (trees ≡ db.trees))
      → HasCleanDisk new → IsTrue old.is_open → ((db : Trees) → old.may_leave db → db ≡ old.committed.trees) → (db : Trees) → new.may_leave db
      → HoldsGames db (games_in (old.committed.trees 0)) ⊎ HoldsGames db (with_all (games_in (old.committed.trees 0)) entries)
  put_stops new mirrors settled survives clean is_open law db may =
      let early : HasCleanDisk old = omega (arith, survives.clean) in
      elim (leaves_either (number_at before) old new _ law (mirrors early is_open).has (put_crash new mirrors settled survives) clean db may) [
        | inl was ↦ inl was
        | inr made ↦ inr (made is_open)
      ]
