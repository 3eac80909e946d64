-- What memory has once the rows of a database were read.
use Rattle.std.proofs.Common.{◌≡◌, ◌⊎◌, inl, inr, ◌<◌, ◌+◌, ℕ, List, [], ◌∷◌, ◌++◌, length, map, take, get_or, Bool, true, false, Option, Some, None, option_map, option_and_then, All, refl, sym, ap, subst, ◌∙◌, arith}
use Rattle.std.specs.List.{AllByRecursion}
use Rattle.std.specs.List.Sorted.{IsPermutation}
use Rattle.std.proofs.lemmas.Bool.{cases_Bool}
use Rattle.std.proofs.lemmas.List.{take_more}
use Rattle.std.proofs.lemmas.List.Elements.{All-more, All-nil, All-cons, All-head, All-tail, All-weaker, All-from_recursion, All-map, All-same}
use Rattle.std.proofs.lemmas.List.Sorted.{All-permutation, IsPermutation-sym}
use Rattle.std.specs.Str.{bytes_eq}
use Rattle.sqlite.specs.Order.{Row, column}
use Rattle.sqlite.specs.Effect.{Database}
use Rattle.sqlite_catalog.specs.Listing.{IsSound}
use Rattle.system_io.specs.declared.record_store.Entry.{Entry}
use Rattle.game_store.specs.declared.memory.Slot.{Slot}
use Rattle.system_io.specs.Records.{entry_record}
use Rattle.game_store.specs.Rows.{AreRows, IsRow, game_in, games_in, game_schema, is_stamp_value, list_row}
use Rattle.game_store.specs.Slots.{Slots, Takes, game_at, game_of_text, number_at, slot_at}
use Rattle.game_store.specs.Shelves.{HasRead, HasRow, Mirrors, TakesRow}
use Rattle.game_store.proofs.SlotLemmas.{one_stamp, own_stamp}

-- ---- a row more

kept_row : (old new : Slots) (number : ℕ) (e : Entry) (r : Row) → Takes number e old new → HasRow old r → HasRow new r
kept_row old new number e r taken has =
    let unlike : (b : Bool) → bytes_eq e.stamp has.entry.stamp ≡ b → b ≡ false = go in
    let is = unlike (bytes_eq e.stamp has.entry.stamp) refl in
    record {
      number = has.number;
      entry = has.entry;
      told = has.told;
      numbered = taken.numbers has.entry.stamp ∙ rw is has.numbered;
      kept = taken.games has.entry.stamp ∙ rw is has.kept;
    }
  where
    go : (b : Bool) → bytes_eq e.stamp has.entry.stamp ≡ b → b ≡ false
    go false is = refl
    go true is = absurd (let two : None ≡ Some has.number = sym taken.fresh ∙ ap (number_at old) (one_stamp e.stamp has.entry.stamp is) ∙ has.numbered in cc)

new_row : (old new : Slots) (r : Row) → TakesRow r old new → HasRow new r
new_row old new r it = record {
  number = it.number;
  entry = it.entry;
  told = it.told;
  numbered = it.taken.numbers it.entry.stamp ∙ rw (own_stamp it.entry.stamp) refl;
  kept = it.taken.games it.entry.stamp ∙ rw (own_stamp it.entry.stamp) refl;
}

module _ (P : Row → Type 0) (r : Row) where
  last_of : (xs : List Row) → All P (xs ++ r ∷ []) → P r
  last_of [] all = All-head P r [] all
  last_of (x ∷ xs) all = last_of xs (All-tail P x (xs ++ r ∷ []) all)

  first_of : (xs : List Row) → All P (xs ++ r ∷ []) → All P xs
  first_of [] all = All-nil P
  first_of (x ∷ xs) all = All-cons P x xs (All-head P x (xs ++ r ∷ []) all) (first_of xs (All-tail P x (xs ++ r ∷ []) all))

pub read_none : HasRead [] []
read_none = record { each = λ k d low. absurd (omega (arith, low)); only = λ stamp all. refl }

pub read_more : (rows : List Row) (i : ℕ) (r : Row) (old new : Slots) → i < length rows → r ≡ get_or rows i r → HasRead (take i rows) old → TakesRow r old new → HasRead (take (i + 1) rows) new
read_more rows i r old new within is before it = record {
  each = All-more (HasRow new) rows i r within (All-weaker (HasRow old) (HasRow new) (λ x. kept_row old new it.number it.entry x it.taken) (take i rows) before.each) (subst (HasRow new) is (new_row old new r it));
  only = λ stamp none.
      let P = λ (x : Row). is_stamp_value stamp (column x 1) ≡ false in
      let more : take (i + 1) rows ≡ take i rows ++ r ∷ [] = take_more rows i r within ∙ ap (λ x. take i rows ++ x ∷ []) (sym is) in
      let both = All-same P (take i rows ++ r ∷ []) (take (i + 1) rows) (sym more) none in
      let last : is_stamp_value stamp (column r 1) ≡ false = last_of P r (take i rows) both in
      let unlike : bytes_eq it.entry.stamp stamp ≡ false = sym (ap (is_stamp_value stamp) it.told.stamp_is) ∙ last in
      it.taken.numbers stamp ∙ rw unlike (before.only stamp (first_of P r (take i rows) both));
}

-- ---- all rows

row_of : (slots : Slots) (r : Row) → HasRow slots (list_row r) → IsRow (number_at slots) r
row_of slots r has = record {
  stamp = has.entry.stamp;
  number = has.number;
  count = has.entry.count;
  text = has.entry.record.items;
  numbered = has.numbered;
  whole = has.told.whole;
  low = has.told.low;
  few = has.told.few;
  id_is = has.told.id_is;
  stamp_is = has.told.stamp_is;
  count_is = has.told.count_is;
  text_is = has.told.text_is;
}

rows_of : (slots : Slots) (rows : List Row) → All (HasRow slots) (map list_row rows) → AreRows (number_at slots) rows
rows_of slots [] all = tt
rows_of slots (r ∷ rows) all = (row_of slots r (All-head (HasRow slots) (list_row r) (map list_row rows) all), rows_of slots rows (All-tail (HasRow slots) (list_row r) (map list_row rows) all))

game_of_row : (slots : Slots) (r : Row) (stamp : List ℕ) → HasRow slots (list_row r) → is_stamp_value stamp (column r 2) ≡ true → game_at slots stamp ≡ Some (game_in r)
game_of_row slots r stamp has of =
    let same : has.entry.stamp ≡ stamp = one_stamp has.entry.stamp stamp (sym (ap (is_stamp_value stamp) has.told.stamp_is) ∙ of) in
    let game : game_in r ≡ entry_record has.entry = rw (has.told.count_is, has.told.text_is) refl in
    ap (game_at slots) (sym same) ∙ has.kept ∙ ap (λ g. Some g) (sym game)

scan : (slots : Slots) (stamp : List ℕ) (rows : List Row) → All (HasRow slots) (map list_row rows)
    → (game_at slots stamp ≡ games_in rows stamp) ⊎ ((games_in rows stamp ≡ None) × AllByRecursion (λ (r : Row). is_stamp_value stamp (column r 2) ≡ false) rows)
scan slots stamp [] all = inr (refl, tt)
scan slots stamp (r ∷ rows) all = elim (cases_Bool (is_stamp_value stamp (column r 2))) [
  | inl of ↦ inl (rw of (game_of_row slots r stamp (All-head (HasRow slots) (list_row r) (map list_row rows) all) of))
  | inr other ↦ elim (scan slots stamp rows (All-tail (HasRow slots) (list_row r) (map list_row rows) all)) [
    | inl same ↦ inl (rw other same)
    | inr none ↦ inr (rw other none.0, (other, none.1))
  ]
]

no_game : (o : Option Slot) → option_map (λ (s : Slot). s.number) o ≡ None → option_and_then (λ (s : Slot). option_map game_of_text s.text) o ≡ None
no_game None h = refl
no_game (Some s) h = absurd (let e = h in cc)

pub mirrors : (slots : Slots) (db : Database) (rows : List Row) → db.schema ≡ game_schema → IsSound game_schema db.trees → IsPermutation (map list_row (db.trees 0)) rows → HasRead rows slots → Mirrors slots db
mirrors slots db rows schema sound same read =
    let all = All-permutation (HasRow slots) rows (map list_row (db.trees 0)) (IsPermutation-sym (map list_row (db.trees 0)) rows same) read.each in
    record {
      has = record { schema = schema; sound = sound; rows = rows_of slots (db.trees 0) all };
      games = λ stamp. elim (scan slots stamp (db.trees 0) all) [
        | inl is ↦ is
        | inr none ↦
            let P = λ (r : Row). is_stamp_value stamp (column r 1) ≡ false in
            let listed = All-permutation P (map list_row (db.trees 0)) rows same (All-map P list_row (db.trees 0) (All-from_recursion (λ (r : Row). is_stamp_value stamp (column r 2) ≡ false) (db.trees 0) none.1)) in
            no_game (slot_at slots stamp) (read.only stamp listed) ∙ sym none.0
      ];
    }
