-- Whoever opens what is missing, and asks again, comes to an end.
use Rattle.std.proofs.Common.{◌≡◌, ◌≢◌, ◌∙◌, sym, ap, subst, refl, IsFalse, ℕ, zero, suc, ◌+◌, ◌<◌, ◌≤◌, ◌⊎◌, cond, is_some, [], ◌∷◌, length, get_or, set, Option, Some, None, inl, inr, arith}
use Rattle.std.proofs.lemmas.Bool.{cases_eq}
use Rattle.std.proofs.lemmas.List.{get_or-set_same, get_or-set_other}
use Rattle.std.proofs.lemmas.List.Sums.{sum_by-cons, count_by-le-length}
use Rattle.board_core.specs.declared.parts.Parts.{Parts}
use Rattle.board_core.specs.ComputedMoves.{legal_moves}
use Rattle.table_file.specs.declared.kind.TableKind.{TableKind}
use Rattle.table_file.specs.declared.kind.TableKind.TheVariants.{Wdl, Dtz}
use Rattle.table_file.specs.Tables.{Contents}
use Rattle.judge_core.specs.Tables.{Tables, slot, table_at}
use Rattle.judge_core.specs.Asked.{not_covered}
use Rattle.judge_core.specs.Probing.{wdl_of}
use Rattle.board_core.specs.Ends.{has_no_move}
use Rattle.judge_core.specs.Distances.{dtz_of}
use Rattle.judge_core.specs.Answers.{IsDecisive}
use Rattle.judge_core.specs.Ruling.{is_out_of_scope}
use Rattle.judge_core.proofs.MoreTables.{more_answer_the_same}
use Rattle.judge_core.specs.MoreTables.{IsFinalRuling, AnswersTheSame, FinalStaysFinal, HasAll, AddsNone, IsFinalValue, IsFinalDistance, table_count, AreOpened, HasLast, AskingAgainEnds, AddingKeepsTheRest, AddsTable, WhatIsNotFinalCanBeOpened}

-- ---- counting tables

one : (o : Option Contents) (tables : Tables) → table_count (o ∷ tables) ≡ cond (is_some o) 1 0 + table_count tables
one o tables = sum_by-cons (λ (o : Option Contents). cond (is_some o) 1 0) o tables

counted : (o : Option Contents) (t : Contents) → o ≡ Some t → cond (is_some o) 1 0 ≡ suc zero
counted o t e = rw e refl

uncounted : (o : Option Contents) → o ≡ None → cond (is_some o) 1 0 ≡ zero
uncounted o e = rw e refl

-- each table of the first is in the second
abbrev IsWithin : Tables → Tables → Type 0
IsWithin xs ys = (i : ℕ) (t : Contents) → get_or xs i None ≡ Some t → get_or ys i None ≡ Some t

rest_within : (x y : Option Contents) (xs ys : Tables) → IsWithin (x ∷ xs) (y ∷ ys) → IsWithin xs ys
rest_within x y xs ys h i t e = h (suc i) t e

head_within : (x y : Option Contents) (xs ys : Tables) → IsWithin (x ∷ xs) (y ∷ ys) → cond (is_some x) 1 0 ≤ cond (is_some y) 1 0
head_within None y xs ys h = omega arith
head_within (Some t) y xs ys h = (let e : y ≡ Some t = h 0 t refl in rw e (omega arith))

none_within : (xs : Tables) → IsWithin xs [] → table_count xs ≤ 0
none_within [] h = omega arith
none_within (None ∷ xs) h = (let rest = none_within xs (λ i t e. h (suc i) t e) in let e = one None xs in omega (arith, rest, e))
none_within (Some t ∷ xs) h = (let never : None ≡ Some t = h 0 t refl in absurd cc)

count_le : (xs ys : Tables) → IsWithin xs ys → table_count xs ≤ table_count ys
count_le [] ys h = omega arith
count_le (x ∷ xs) [] h = none_within (x ∷ xs) h
count_le (x ∷ xs) (y ∷ ys) h =
    let head = head_within x y xs ys h in
    let rest = count_le xs ys (rest_within x y xs ys h) in
    let a = one x xs in
    let b = one y ys in
    omega (arith, head, rest, a, b)

count_lt : (xs ys : Tables) (i : ℕ) (t : Contents) → IsWithin xs ys → get_or xs i None ≡ None → get_or ys i None ≡ Some t → table_count xs < table_count ys
count_lt xs [] i t h none some = absurd (cc)
count_lt [] (y ∷ ys) zero t h none some =
    let a = one y ys in
    let b = counted y t some in
    omega (arith, a, b)
count_lt [] (y ∷ ys) (suc i) t h none some =
    let rest = count_lt [] ys i t (λ j u e. absurd cc) refl some in
    let a = one y ys in
    omega (arith, a, rest)
count_lt (x ∷ xs) (y ∷ ys) zero t h none some =
    let rest = count_le xs ys (rest_within x y xs ys h) in
    let a = one x xs in
    let b = one y ys in
    let c = uncounted x none in
    let d = counted y t some in
    omega (arith, rest, a, b, c, d)
count_lt (x ∷ xs) (y ∷ ys) (suc i) t h none some =
    let head = head_within x y xs ys h in
    let rest = count_lt xs ys i t (rest_within x y xs ys h) none some in
    let a = one x xs in
    let b = one y ys in
    omega (arith, head, rest, a, b)

within : (tables more : Tables) → HasAll tables more → IsWithin tables more
within tables more all i t e = all Wdl i t e

-- ---- what can be opened

adds_or_none : (tables whole : Tables) → HasAll tables whole → (kind : TableKind) (key : ℕ) → AddsNone tables whole kind key ⊎ AddsTable tables whole kind key
adds_or_none tables whole all kind key = by_table (table_at tables kind key) (table_at whole kind key) refl refl
  where
    by_table : (o w : Option Contents) → table_at tables kind key ≡ o → table_at whole kind key ≡ w → AddsNone tables whole kind key ⊎ AddsTable tables whole kind key
    by_table None None e f = inl (f ∙ sym e)
    by_table None (Some t) e f = inr (record { table = t; lacks = e; there = f })
    by_table (Some t) w e f = inl (all kind key t e ∙ sym e)

value_or_opened : (tables whole : Tables) (missing : Option ℕ) → HasAll tables whole → IsFinalValue tables whole missing ⊎ ((key : ℕ) × (missing ≡ Some key) × AddsTable tables whole Wdl key)
value_or_opened tables whole None all = inl tt
value_or_opened tables whole (Some key) all = elim (adds_or_none tables whole all Wdl key) [
  | inl none ↦ inl none
  | inr adds ↦ inr (key, refl, adds)
]

distance_or_opened : (tables whole : Tables) (missing : Option ℕ) → HasAll tables whole → IsFinalDistance tables whole missing ⊎ ((key : ℕ) × (missing ≡ Some key) × (kind : TableKind) × AddsTable tables whole kind key)
distance_or_opened tables whole None all = inl tt
distance_or_opened tables whole (Some key) all = by_kinds (adds_or_none tables whole all Wdl key) (adds_or_none tables whole all Dtz key)
  where
    both : AddsNone tables whole Wdl key → AddsNone tables whole Dtz key → (kind : TableKind) → AddsNone tables whole kind key
    both a b Wdl = a
    both a b Dtz = b

    by_kinds : AddsNone tables whole Wdl key ⊎ AddsTable tables whole Wdl key → AddsNone tables whole Dtz key ⊎ AddsTable tables whole Dtz key
        → IsFinalDistance tables whole (Some key) ⊎ ((k : ℕ) × (Some key ≡ Some k) × (kind : TableKind) × AddsTable tables whole kind k)
    by_kinds (inl a) (inl b) = inl (both a b)
    by_kinds (inl a) (inr adds) = inr (key, refl, Dtz, adds)
    by_kinds (inr adds) b = inr (key, refl, Wdl, adds)

pub not_final_can_be_opened : WhatIsNotFinalCanBeOpened
not_final_can_be_opened tables whole missing all = (value_or_opened tables whole missing all, distance_or_opened tables whole missing all)

-- ---- the end

module _ (IsFinal : Tables → Type 0) (whole : Tables) (sets : ℕ → Tables) (h : AreOpened IsFinal whole sets) where
  abbrev IsOpened : ℕ → Type 0
  IsOpened n = (kind : TableKind) × (key : ℕ) × AddsTable (sets n) (sets (n + 1)) kind key

  -- the next set has a table more
  grown : (n : ℕ) → IsOpened n → table_count (sets n) < table_count (sets (n + 1))
  grown n (kind, key, adds) = count_lt (sets n) (sets (n + 1)) (slot kind key) adds.table (within (sets n) (sets (n + 1)) (h.kept n)) adds.lacks adds.there

  most : (n : ℕ) → table_count (sets n) ≤ table_count whole
  most n = count_le (sets n) whole (within (sets n) whole (h.within n))

  by_end : (n : ℕ) → n + table_count (sets 0) ≤ table_count (sets n) → (IsOpened n → HasLast IsFinal whole sets) → IsFinal (sets n) ⊎ IsOpened n → HasLast IsFinal whole sets
  by_end n opened later (inl final) = record {
    last = n;
    final = final;
    opened = opened;
    soon = (let a = most n in let b : table_count whole ≤ length whole = count_by-le-length is_some whole in omega (arith, a, b, opened));
  }
  by_end n opened later (inr added) = later added

  -- from a set that lacks so many tables of the whole one
  from_set : (k n : ℕ) → table_count whole ≤ table_count (sets n) + k → n + table_count (sets 0) ≤ table_count (sets n) → HasLast IsFinal whole sets
  from_set zero n left opened = by_end n opened (λ added. (let a = grown n added in let b = most (n + 1) in absurd (omega (arith, a, b, left)))) (h.opened n)
  from_set (suc k) n left opened = by_end n opened (λ added. (let a = grown n added in from_set k (n + 1) (omega (arith, a, left)) (omega (arith, a, opened)))) (h.opened n)

  reached : HasLast IsFinal whole sets
  reached = from_set (table_count whole) 0 (omega arith) (omega arith)

pub asking_again_ends : AskingAgainEnds
asking_again_ends whole sets missing p = (
  reached (λ set. IsFinalValue set whole (missing set)) whole sets,
  reached (λ set. IsFinalDistance set whole (missing set)) whole sets,
  reached (λ set. IsFinalRuling set whole p) whole sets,
)

-- ---- between two sets

module _ (tables more whole : Tables) (below : HasAll tables more) (above : HasAll more whole) where
  between : (kind : TableKind) (key : ℕ) → AddsNone tables whole kind key → AddsNone tables more kind key
  between kind key none = by_table (table_at more kind key) (table_at tables kind key) refl refl
    where
      by_table : (o w : Option Contents) → table_at more kind key ≡ o → table_at tables kind key ≡ w → o ≡ w
      by_table None None e f = refl
      by_table None (Some t) e f = sym e ∙ below kind key t f
      by_table (Some t) w e f = sym (above kind key t e) ∙ none ∙ f

  above_none : (kind : TableKind) (key : ℕ) → AddsNone tables whole kind key → AddsNone more whole kind key
  above_none kind key none = none ∙ sym (between kind key none)

  value_stays : (missing : Option ℕ) → IsFinalValue tables whole missing → IsFinalValue tables more missing × IsFinalValue more whole missing
  value_stays None f = (tt, tt)
  value_stays (Some key) f = (between Wdl key f, above_none Wdl key f)

  distance_stays : (missing : Option ℕ) → IsFinalDistance tables whole missing → IsFinalDistance tables more missing × IsFinalDistance more whole missing
  distance_stays None f = (tt, tt)
  distance_stays (Some key) f = (λ kind. between kind key (f kind), λ kind. above_none kind key (f kind))

  module _ (p : Parts) (f : IsFinalRuling tables whole p) where
    same : AnswersTheSame tables more p
    same = more_answer_the_same tables more p below

    value_there : IsFalse (has_no_move (legal_moves p)) → IsFalse (is_out_of_scope p) → wdl_of more p ≡ wdl_of tables p
    value_there left scope = same.value (value_stays (not_covered (wdl_of tables p)) (f.value left scope)).0

    distance_there : IsFalse (has_no_move (legal_moves p)) → IsFalse (is_out_of_scope p) → IsDecisive (wdl_of more p) → IsFinalDistance more whole (not_covered (dtz_of more p))
    distance_there left scope decisive =
        let final = distance_stays (not_covered (dtz_of tables p)) (f.distance left scope (subst (λ r. IsDecisive r) (value_there left scope) decisive)) in
        subst (λ r. IsFinalDistance more whole (not_covered r)) (sym (same.distance final.0)) final.1

    ruling_stays : IsFinalRuling tables more p × IsFinalRuling more whole p
    ruling_stays = (
      record {
        value = λ left scope. (value_stays (not_covered (wdl_of tables p)) (f.value left scope)).0;
        distance = λ left scope decisive. (distance_stays (not_covered (dtz_of tables p)) (f.distance left scope decisive)).0;
      },
      record {
        value = λ left scope. subst (λ r. IsFinalValue more whole (not_covered r)) (sym (value_there left scope)) (value_stays (not_covered (wdl_of tables p)) (f.value left scope)).1;
        distance = distance_there;
      },
    )

pub final_stays_final : FinalStaysFinal
final_stays_final tables more whole below above = (value_stays tables more whole below above, distance_stays tables more whole below above, ruling_stays tables more whole below above)

-- ---- one table more

module _ (tables : Tables) (kind : TableKind) (key : ℕ) (t : Contents) (none : table_at tables kind key ≡ None) (lt : slot kind key < length tables) where
  abbrev added : Tables
  added = set tables (slot kind key) (Some t)

  there : table_at added kind key ≡ Some t
  there = get_or-set_same tables (slot kind key) (Some t) None lt

  elsewhere : (i : ℕ) → i ≢ slot kind key → get_or added i None ≡ get_or tables i None
  elsewhere i apart = get_or-set_other tables (slot kind key) i (Some t) None apart

  kept : HasAll tables added
  kept k m u e = elsewhere (slot k m) (λ same. (let never : None ≡ Some u = sym none ∙ sym (ap (λ i. get_or tables i None) same) ∙ e in absurd cc)) ∙ e

  in_whole : (whole : Tables) → HasAll tables whole → table_at whole kind key ≡ Some t → HasAll added whole
  in_whole whole all has k m u e = elim (cases_eq (slot k m) (slot kind key)) [
    | inl same ↦ ap (λ i. get_or whole i None) same ∙ has ∙ sym there ∙ sym (ap (λ i. get_or added i None) same) ∙ e
    | inr apart ↦ all k m u (sym (elsewhere (slot k m) apart) ∙ e)
  ]

pub adding_keeps_the_rest : AddingKeepsTheRest
adding_keeps_the_rest tables kind key t none lt = record {
  kept = kept tables kind key t none lt;
  there = there tables kind key t none lt;
  within = in_whole tables kind key t none lt;
}
