-- What entries of different games say, put in turn.
use Rattle.std.proofs.Common.{◌≡◌, ℕ, List, [], ◌∷◌, map, Bool, true, false, cond, Option, Some, None, Result, Ok, Err, IfOk, refl, sym, ap, ◌∙◌, subst, Less}
use Rattle.std.specs.List.{AllByRecursion}
use Rattle.std.specs.List.Sorted.{IsStrictlySortedBy}
use Rattle.std.specs.Map.{lookup}
use Rattle.std.specs.Ordering.{nat_cmp}
use Rattle.std.specs.Cmp.Lexicographic.{slice_cmp}
use Rattle.std.specs.Str.{bytes_eq}
use Rattle.system_io.specs.declared.record_store.Entry.{Entry}
use Rattle.system_io.specs.Records.{AreSame, Records, StoredRecord, entry_record, records_of, with_all, with_entry}
use Rattle.game_store.specs.Listing.{Listed, ListsGames, listed_entry}
use Rattle.game_store.proofs.ListLemmas.{unlike}
use Rattle.game_store.proofs.SlotLemmas.{one_stamp, own_stamp}

abbrev stamps : List Listed → List (List ℕ)
stamps = map (λ (e : Listed). e.0)

abbrev or_else : Option StoredRecord → Option StoredRecord → Option StoredRecord
or_else None other = other
or_else (Some r) other = Some r

-- a stamp below all others is not among them
absent : (k : List ℕ) (all : List Listed) → AllByRecursion (λ q. slice_cmp nat_cmp k q ≡ Less) (stamps all) → lookup (bytes_eq k) all ≡ None
absent k [] above = refl
absent k (e ∷ es) above = rw (unlike k e.0 above.0 (bytes_eq k e.0) refl) (absent k es above.1)

other_stamp : (a b : List ℕ) → bytes_eq a b ≡ false → (c : Bool) → bytes_eq b a ≡ c → c ≡ false
other_stamp a b other false is = refl
other_stamp a b other true is =
    let e : true ≡ false = sym (own_stamp a) ∙ ap (bytes_eq a) (sym (one_stamp b a is)) ∙ other in
    absurd cc

-- an entry that is put before others of different games
before : (a : Records) (e : Entry) (all : List Listed) (stamp : List ℕ) → AllByRecursion (λ q. slice_cmp nat_cmp e.stamp q ≡ Less) (stamps all)
    → (b : Bool) → bytes_eq stamp e.stamp ≡ b → or_else (lookup (bytes_eq stamp) all) (with_entry a e stamp) ≡ or_else (cond b (Some (entry_record e)) (lookup (bytes_eq stamp) all)) (a stamp)
before a e all stamp above true is =
    let here : stamp ≡ e.stamp = one_stamp stamp e.stamp is in
    let none : lookup (bytes_eq stamp) all ≡ None = subst (λ k. lookup (bytes_eq k) all ≡ None) (sym here) (absent e.stamp all above) in
    let same : bytes_eq e.stamp stamp ≡ true = ap (bytes_eq e.stamp) here ∙ own_stamp e.stamp in
    rw (none, same) refl
before a e all stamp above false is = rw (other_stamp stamp e.stamp is (bytes_eq e.stamp stamp) refl) refl

put_in_turn : (a : Records) (es : List Entry) (stamp : List ℕ) → IsStrictlySortedBy (slice_cmp nat_cmp) (stamps (map listed_entry es))
    → with_all a es stamp ≡ or_else (lookup (bytes_eq stamp) (map listed_entry es)) (a stamp)
unfolding IsStrictlySortedBy
put_in_turn a [] stamp rising = refl
put_in_turn a (e ∷ es) stamp rising =
    put_in_turn (with_entry a e) es stamp rising.1 ∙ before a e (map listed_entry es) stamp rising.0 (bytes_eq stamp e.stamp) refl

or_none : (o : Option StoredRecord) → or_else o None ≡ o
or_none None = refl
or_none (Some r) = refl

pub records_listed : (es : List Entry) (all : List Listed) (games : Records) → map listed_entry es ≡ all → ListsGames all games → AreSame (records_of es) games
records_listed es all games same lists stamp =
    let rising = subst (λ (xs : List Listed). IsStrictlySortedBy (slice_cmp nat_cmp) (stamps xs)) (sym same) lists.rising in
    put_in_turn (λ _. None) es stamp rising ∙ or_none (lookup (bytes_eq stamp) (map listed_entry es)) ∙ ap (lookup (bytes_eq stamp)) same ∙ lists.found stamp

-- what follows of a good result
pub if_ok : {A E : Type 0} {P Q : A → Type 0} (r : Result A E) → ((a : A) → P a → Q a) → IfOk r P → IfOk r Q
if_ok (Ok a) f h = f a h
if_ok (Err e) f h = tt
