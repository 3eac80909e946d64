-- A distance that misses a WDL table doesn't look at the DTZ table of that material.
use Rattle.std.proofs.Common.{◌≡◌, ◌≢◌, ◌⊎◌, ◌<◌, ◌+◌, ℕ, zero, suc, nat_le, Bool, true, false, List, [], ◌∷◌, ◌++◌, find, Option, Some, None, Result, Ok, Err, refl, ap, ◌∙◌, inl, inr, arith, if◌then◌else◌}
use Rattle.std.proofs.lemmas.Bool.{cases_eq}
use Rattle.std.specs.List.{range_with_len}
use Rattle.std.specs.Option.{option_or}
use Rattle.board_core.specs.declared.parts.Parts.{Parts}
use Rattle.board_core.specs.ComputedMoves.{count_of_men, legal_captures}
use Rattle.place_index.specs.Placed.{men_on}
use Rattle.table_file.specs.declared.kind.TableKind.TheVariants.{Wdl, Dtz}
use Rattle.table_file.specs.declared.outcome.Outcome.{Outcome}
use Rattle.judge_core.specs.declared.fault.ValueFault.{ValueFault}
use Rattle.judge_core.specs.declared.fault.ValueFault.TheVariants.{NotCovered}
use Rattle.judge_core.specs.declared.wdl.Wdl.{Wdl as Value}
use Rattle.judge_core.specs.Asked.{damaged, fault_in, first, missing_or_damaged, not_covered, unless}
use Rattle.judge_core.specs.Distances.{Reach, by_material, by_outcome, by_own_table, by_table, by_moves, dtz_by, dtz_from_search, dtz_of, dtz_to, is_by_capture, is_won, pawns_reach_where, towards, unless_reached, zeroing}
use Rattle.judge_core.specs.LookUp.{is_material, material_of}
use Rattle.judge_core.specs.Probing.{searched_by, searched_where, values_after, wdl_of, wdl_where, worth}
use Rattle.judge_core.specs.Tables.{Tables, table_at, table_value, value_in, value_of}
use Rattle.judge_core.specs.Values.{Reading, outcome_of}

-- ---- keys

found_below : (f : ℕ → Bool) (from n k : ℕ) → find f (range_with_len from n) ≡ Some k → k < from + n
found_below f from zero k e = absurd cc
found_below f from (suc n) k e = by_first (λ h. found_below f (from + 1) n k h) (f from) refl
  where
    by_first : (find f (range_with_len (from + 1) n) ≡ Some k → k < from + 1 + n) → (b : Bool) → f from ≡ b → k < from + suc n
    by_first rest true h = let here : Some from ≡ Some k = rw h at e in let same : from ≡ k = cc in omega arith
    by_first rest false h = let later = rest (rw h at e) in omega arith

known_key : (p : Parts) (key : ℕ) → material_of p ≡ Some key → key < 145
unfolding material_of
known_key p key e = found_below (is_material (men_on p.men)) 0 145 key e

-- ---- a list that ends by a missing table has a fault

first_missing : (rs : List Reading) (key : ℕ) → (k : ℕ) × (first not_covered (rs ++ Err (NotCovered key) ∷ []) ≡ Some k)
first_missing [] key = (key, refl)
first_missing (r ∷ rs) key = by_first (not_covered r) (first not_covered (rs ++ Err (NotCovered key) ∷ [])) (first_missing rs key)
  where
    by_first : (o rest : Option ℕ) → (k : ℕ) × (rest ≡ Some k) → (k : ℕ) × (option_or o rest ≡ Some k)
    by_first None rest h = h
    by_first (Some k) rest h = (k, refl)

no_search : {X : Type 0} (rs : List Reading) (key : ℕ) (own : Reading) (searched : Result X ValueFault) (w : X) → own ≡ Err (NotCovered key) → unless (fault_in (rs ++ own ∷ [])) searched ≡ Ok w → ⊥
no_search rs key own searched w e ok =
    let missing = first_missing rs key in
    let fault : unless (missing_or_damaged (Some missing.0) (first damaged (rs ++ Err (NotCovered key) ∷ []))) searched ≡ Ok w = rw (e, missing.1) at ok in
    absurd cc

else_alike : {X : Type 0} (test : Bool) (x y z : X) → y ≡ z → (if test then x else y) ≡ (if test then x else z)
else_alike test x y z e = ap (λ r. if test then x else r) e

-- what a search of captures comes to, a type that judge_core keeps to itself
abbrev Payload : {X E : Type 0} → Result X E → Type 0
Payload {X = X} r = X

abbrev Search : Tables → Parts → Type 0
Search tables p = Payload (searched_by tables (wdl_of tables) p)

-- ---- two sets that differ by one DTZ table, of a material without WDL table

module _ (a b : Tables) (wdl : (key : ℕ) → key < 145 → table_at a Wdl key ≡ table_at b Wdl key) (k : ℕ) (none : table_at a Wdl k ≡ None) (dtz : (key : ℕ) → key < 145 → key ≢ k → table_at a Dtz key ≡ table_at b Dtz key) where
  own_same : (p : Parts) → table_value a p ≡ table_value b p
  unfolding table_value
  own_same p = by_material_of (material_of p) refl
    where
      by_material_of : (o : Option ℕ) → material_of p ≡ o → value_of a o p ≡ value_of b o p
      by_material_of None e = refl
      by_material_of (Some key) e = ap (λ o. value_in o key p) (wdl key (known_key p key e))

  owns_same : table_value a ≡ table_value b
  owns_same = λ i p. own_same p i

  values_same : wdl_of a ≡ wdl_of b
  unfolding wdl_of
  values_same = λ i p. wdl_where (owns_same i) p

  searched_same : (p : Parts) → searched_by a (wdl_of a) p ≡ searched_by b (wdl_of b) p
  unfolding searched_by
  searched_same p = λ i. searched_where (owns_same i) (values_same i) p

  -- what is searched is there, so the WDL table is
  not_searched : (p : Parts) (w : Search a p) → searched_by a (wdl_of a) p ≡ Ok w → material_of p ≡ Some k → ⊥
  unfolding searched_by searched_where table_value
  not_searched p w ok material =
      let own : value_of a (material_of p) p ≡ Err (NotCovered k) = ap (λ o. value_of a o p) material ∙ ap (λ o. value_in o k p) none in
      no_search (values_after (wdl_of a) p (legal_captures p)) k _ _ w own ok

  module _ (f g : Parts → Reach) (same : f ≡ g) (p : Parts) (w : Search a p) (ok : searched_by a (wdl_of a) p ≡ Ok w) where
    by_own_same : (outcome : Outcome) → by_own_table a f p outcome ≡ by_own_table b g p outcome
    unfolding by_own_table
    by_own_same outcome = by_material_of (material_of p) refl
      where
        by_key : (key : ℕ) → material_of p ≡ Some key → (key ≡ k) ⊎ (key ≢ k) → by_table (table_at a Dtz key) key f p outcome ≡ by_table (table_at b Dtz key) key g p outcome
        by_key key e (inl is) = absurd (not_searched p w ok (e ∙ ap (λ n. Some n) is))
        by_key key e (inr other) = ap (λ o. by_table o key f p outcome) (dtz key (known_key p key e) other) ∙ ap (λ h. by_table (table_at b Dtz key) key h p outcome) same

        by_material_of : (o : Option ℕ) → material_of p ≡ o → by_material a o f p outcome ≡ by_material b o g p outcome
        by_material_of None e = refl
        by_material_of (Some key) e = by_key key e (cases_eq key k)

    by_moves_same : (v : Value) (outcome : Outcome) → by_moves a f p v outcome ≡ by_moves b g p v outcome
    unfolding by_moves
    by_moves_same v outcome = λ i. if is_won outcome then unless_reached (pawns_reach_where (values_same i) p v) outcome (by_own_same outcome i) else by_own_same outcome i

    by_outcome_same : (o : Option Outcome) → by_outcome a f p w o ≡ by_outcome b g p w o
    by_outcome_same None = refl
    by_outcome_same (Some outcome) = ap (λ r. if is_by_capture w then Ok (towards outcome (zeroing outcome)) else r) (by_moves_same (worth w) outcome)

  by_search_same : (f g : Parts → Reach) → f ≡ g → (p : Parts) (s : Result (Search a p) ValueFault) → searched_by a (wdl_of a) p ≡ s → dtz_from_search a f p s ≡ dtz_from_search b g p s
  by_search_same f g same p (Err fault) e = refl
  by_search_same f g same p (Ok w) e = by_outcome_same f g same p w e (outcome_of (worth w))

  dtz_to_same : (n : ℕ) → dtz_to a n ≡ dtz_to b n
  unfolding dtz_to
  dtz_to_same zero = λ i p. dtz_to a zero p
  dtz_to_same (suc n) = λ i p. each (dtz_to a n) (dtz_to b n) (dtz_to_same n) p i
    where
      each : (f g : Parts → Reach) → f ≡ g → (p : Parts) → dtz_by a f p ≡ dtz_by b g p
      each f g same p =
          else_alike (nat_le (count_of_men p) 2) _ _ _ (by_search_same f g same p (searched_by a (wdl_of a) p) refl ∙ ap (dtz_from_search b g p) (searched_same p))

  pub distance_same : (p : Parts) → dtz_of a p ≡ dtz_of b p
  unfolding dtz_of
  distance_same p = ap (λ h. h p) (dtz_to_same 2)
