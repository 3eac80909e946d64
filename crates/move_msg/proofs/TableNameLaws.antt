-- The names of table files.
use Rattle.std.proofs.Common.{◌≡◌, ◌≢◌, ◌<◌, ◌≤◌, ◌+◌, ◌++◌, ◌⊎◌, ℕ, Bool, true, false, cond, List, [], ◌∷◌, length, drop, get_or, refl, sym, ap, ◌∙◌, arith, inl, inr}
use Rattle.std.specs.Prelude.{◌==◌, ◌&&◌, nat_le, nat_lt, codes}
use Rattle.move_msg.specs.Inside.Cut.{LacksByte}
use Rattle.move_msg.specs.TableNames.{man_place, are_men_from, IsTableName, IsFileName}
use Rattle.std.proofs.lemmas.Bool.{lt-leb, le-leb, lt-ltb}
use Rattle.std.proofs.lemmas.List.{drop_more, drop_all}
use Rattle.move_msg.proofs.CutBytes.{lacks_append, cut_one_way}

pub both : (a b : Bool) → (a && b) ≡ true → (a ≡ true) × (b ≡ true)
both true b e = (refl, e)
both false b e = let f = e in cc

five : (place : ℕ) → place ≡ 5 → nat_lt place 5 ≡ true → ⊥
five place e t = let f = sym t ∙ ap (λ n. nat_lt n 5) e in cc

-- what is no man is not among them
pub men_lack : (byte : ℕ) → man_place byte ≡ 5 → (least : ℕ) (men : List ℕ) → are_men_from least men ≡ true → LacksByte byte men
unfolding are_men_from
men_lack byte none least [] e = tt
men_lack byte none least (letter ∷ others) e =
    let a = both _ _ e in
    let b = both _ _ a.1 in
    ((λ same. five (man_place letter) (ap man_place same ∙ none) b.0), men_lack byte none (man_place letter) others b.1)

pub table_lacks : (byte : ℕ) → man_place byte ≡ 5 → 75 ≢ byte → 118 ≢ byte → (name : List ℕ) → IsTableName name → LacksByte byte name
table_lacks byte none no_king no_v name t =
    rw t.text (no_king, lacks_append byte t.first _ (men_lack byte none 0 t.first t.first_men) (no_v, (no_king, men_lack byte none 0 t.second t.second_men)))

-- the first v parts the two sides of a name
pub named_by : (name first second : List ℕ) → name ≡ first ++ 118 ∷ second → LacksByte 118 first → (h : IsTableName name) → (first ≡ 75 ∷ h.first) × (second ≡ 75 ∷ h.second)
named_by name first second e lacks h =
    cut_one_way 118 first second (75 ∷ h.first) (75 ∷ h.second) lacks ((λ same. absurd (omega arith)), men_lack 118 refl 0 h.first h.first_men) (sym e ∙ h.text)

-- the first point parts a file's name from its ending
pub filed_by : (name table ending : List ℕ) → name ≡ table ++ 46 ∷ ending → LacksByte 46 table → (h : IsFileName name) → (table ≡ h.table) × ((ending ≡ codes "rtbw") ⊎ (ending ≡ codes "rtbz"))
filed_by name table ending e lacks h =
    let none = table_lacks 46 refl (λ same. absurd (omega arith)) (λ same. absurd (omega arith)) h.table h.is_table in
    elim h.ending [
      | inl w ↦ let x = cut_one_way 46 table ending h.table (codes "rtbw") lacks none (sym e ∙ w) in (x.0, inl x.1)
      | inr z ↦ let x = cut_one_way 46 table ending h.table (codes "rtbz") lacks none (sym e ∙ z) in (x.0, inr x.1)
    ]

man_place_most : (letter : ℕ) → man_place letter ≤ 5
man_place_most letter = most (letter == 81) (letter == 82) (letter == 66) (letter == 78) (letter == 80)
  where
    most : (a b c d e : Bool) → cond a 0 (cond b 1 (cond c 2 (cond d 3 (cond e 4 5)))) ≤ 5
    most true b c d e = omega arith
    most false true c d e = omega arith
    most false false true d e = omega arith
    most false false false true e = omega arith
    most false false false false true = omega arith
    most false false false false false = omega arith

-- one more letter is looked at
men_step : (least i : ℕ) (men : List ℕ) → i < length men → are_men_from least (drop i men) ≡ (nat_le least (man_place (get_or men i 0)) && (nat_lt (man_place (get_or men i 0)) 5 && are_men_from (man_place (get_or men i 0)) (drop (i + 1) men)))
unfolding are_men_from
men_step least i men lt = ap (are_men_from least) (drop_more men i 0 lt)

pub men_end : (least i : ℕ) (men : List ℕ) → length men ≤ i → are_men_from least (drop i men) ≡ true
unfolding are_men_from
men_end least i men le = ap (are_men_from least) (drop_all i men le)

pub men_out_of_order : (least i place : ℕ) (men : List ℕ) → i < length men → place ≡ man_place (get_or men i 0) → place < least → are_men_from least (drop i men) ≡ false
men_out_of_order least i place men lt e low = men_step least i men lt ∙ ap (λ b. b && (nat_lt (man_place (get_or men i 0)) 5 && are_men_from (man_place (get_or men i 0)) (drop (i + 1) men))) (ap (nat_le least) (sym e) ∙ lt-leb _ _ low)

pub no_man : (least i place : ℕ) (men : List ℕ) → i < length men → place ≡ man_place (get_or men i 0) → place ≡ 5 → are_men_from least (drop i men) ≡ false
no_man least i place men lt e five = men_step least i men lt ∙ rw (sym e ∙ five) (last (nat_le least 5) (are_men_from 5 (drop (i + 1) men)))
  where
    last : (a b : Bool) → (a && (false && b)) ≡ false
    last true b = refl
    last false b = refl

pub one_man_more : (least i place : ℕ) (men : List ℕ) → i < length men → place ≡ man_place (get_or men i 0) → least ≤ place → (place ≡ 5 → ⊥) → are_men_from place (drop (i + 1) men) ≡ are_men_from least (drop i men)
one_man_more least i place men lt e le no_five =
    let most = man_place_most (get_or men i 0) in
    sym (men_step least i men lt ∙ rw (sym e, le-leb least place le, lt-ltb place 5 (omega arith)) refl)
