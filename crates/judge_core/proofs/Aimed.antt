-- A completion that is aimed at a value comes as near to it as any other one does. So a value that doesn't lie outside those of
-- the two completions that decide is the one of some completion.
use Rattle.std.proofs.Common.{◌≡◌, ◌∙◌, sym, ap, refl, subst, ℕ, zero, suc, ◌+◌, ◌-◌, ◌≤◌, nat_lt, Bool, true, false, not, ◌&&◌, ◌||◌, cond, Ok, Err, arith}
use Rattle.std.proofs.lemmas.Bool.{ltb-false, false≢true}
use Rattle.board_core.specs.declared.parts.Parts.{Parts}
use Rattle.board_core.specs.Position.{IsPosition}
use Rattle.board_core.specs.ComputedMoves.{count_of_men}
use Rattle.board_core.proofs.ComputedMen.{men_of_position}
use Rattle.judge_core.specs.declared.fault.ValueFault.TheVariants.{NotCovered, Damaged}
use Rattle.judge_core.specs.declared.wdl.Wdl.{Wdl}
use Rattle.judge_core.specs.Values.{Reading, points, greater, opposite, opposite_reading}
use Rattle.judge_core.specs.Tables.{Tables, table_value}
use Rattle.judge_core.specs.Probing.{searched_where, wdl_from_search, wdl_where}
use Rattle.judge_core.specs.Determined.{Completes, IsCompletion}
use Rattle.judge_core.specs.Inside.Determined.{is_won_here, in_stead, extreme, extreme_value, lies_outside}
use Rattle.judge_core.proofs.Captures.{falls}
use Rattle.judge_core.proofs.Rule.{where_meets_rule, still}
use Rattle.judge_core.proofs.Rising.{opposite_points, same_points}
use Rattle.judge_core.proofs.RootCaptures.{greater_left, greater_right}
use Rattle.judge_core.proofs.Completed.{completed_by, turns, extreme-completes}
use Rattle.judge_core.proofs.Related.{Readings, Searched, searched, value_too}
use Rattle.judge_core.proofs.Zeroing.{opposite-twice}

-- ---- nearer to a value

-- the second lies between the first and this value
pub record Nears (v a b : Wdl) : Type 0 where
  pub not_above : (c : ℕ) → points a ≤ c → points v ≤ c → points b ≤ c
  pub not_below : (c : ℕ) → c ≤ points a → c ≤ points v → c ≤ points b

nears-refl : (v a : Wdl) → Nears v a a
nears-refl v a = record { not_above = λ c above other. above; not_below = λ c below other. below }

nears-it : (v a : Wdl) → Nears v a v
nears-it v a = record { not_above = λ c other above. above; not_below = λ c other below. below }

nears-turned : (v a b : Wdl) → Nears v a b → Nears (opposite v) (opposite a) (opposite b)
nears-turned v a b h =
    let ev = opposite_points v in
    let ea = opposite_points a in
    let eb = opposite_points b in record {
      not_above = λ c above other. (let it = h.not_below (4 - c) (omega (arith, ea, above)) (omega (arith, ev, other)) in omega (arith, eb, it));
      not_below = λ c below other. (let it = h.not_above (4 - c) (omega (arith, ea, below)) (omega (arith, ev, other)) in omega (arith, ea, ev, eb, it, below, other));
    }

-- what both are at most, the greater is
greater_under : (x y : Wdl) (k : ℕ) → points x ≤ k → points y ≤ k → points (greater x y) ≤ k
unfolding greater
greater_under x y k hx hy = step (nat_lt (points x) (points y))
  where
    step : (t : Bool) → points (cond t y x) ≤ k
    step true = hy
    step false = hx

-- what the greater is at least, one of them is
one_over : (x y : Wdl) (k : ℕ) (Goal : Type 0) → k ≤ points (greater x y) → (k ≤ points x → Goal) → (k ≤ points y → Goal) → Goal
unfolding greater
one_over x y k Goal le left right = step (nat_lt (points x) (points y)) le
  where
    step : (t : Bool) → k ≤ points (cond t y x) → Goal
    step true le = right le
    step false le = left le

nears-greater : (v a b c d : Wdl) → Nears v a c → Nears v b d → Nears v (greater a b) (greater c d)
nears-greater v a b c d left right = record {
  not_above = λ k above other.
      (let la = greater_left a b in
      let lb = greater_right a b in
      greater_under c d k (left.not_above k (omega (arith, la, above)) other) (right.not_above k (omega (arith, lb, above)) other));
  not_below = λ k below other.
      one_over a b k (k ≤ points (greater c d)) below
      (λ le. (let it = left.not_below k le other in let up = greater_left c d in omega (arith, it, up)))
      (λ le. (let it = right.not_below k le other in let up = greater_right c d in omega (arith, it, up)));
}

-- ---- the completion

-- a value as this side has it, or the other one
abbrev pub seen : Bool → Wdl → Wdl
seen true v = v
seen false v = opposite v

seen_twice : (b : Bool) (v : Wdl) → seen b (seen b v) ≡ v
seen_twice true v = refl
seen_twice false v = opposite-twice v

seen_turned : (b : Bool) (v : Wdl) → opposite (seen (not b) v) ≡ seen b v
seen_turned true v = opposite-twice v
seen_turned false v = refl

-- The missing tables say this value where the number of men is odd, and its opposite where it is even.
pub aimed : Tables → Wdl → Parts → Reading
aimed tables v p = in_stead (table_value tables p) (seen (is_won_here true (count_of_men p)) v)

pub aimed-completes : (tables : Tables) (v : Wdl) → IsCompletion tables (aimed tables v)
unfolding aimed
aimed-completes tables v p = completed_by (table_value tables p) (seen (is_won_here true (count_of_men p)) v)

own_near : (v : Wdl) (r own : Reading) → Completes r own → Readings (Nears v) own (in_stead r v)
own_near v (Ok u) own c = rw c (nears-refl v u)
own_near v (Err (NotCovered key)) (Ok u) c = nears-it v u
own_near v (Err (NotCovered key)) (Err fault) c = absurd (false≢true c)
own_near v (Err (Damaged key)) own c = rw c refl

turned_near : (v : Wdl) (r s : Reading) → Readings (Nears v) r s → Readings (Nears (opposite v)) (opposite_reading r) (opposite_reading s)
turned_near v (Ok a) (Ok b) h = nears-turned v a b h
turned_near v (Ok a) (Err fault) h = absurd h
turned_near v (Err fault) (Ok b) h = absurd h
turned_near v (Err fault) (Err other) h = h

module _ (tables : Tables) (own : Parts → Reading) (completes : IsCompletion tables own) (v : Wdl) where
  -- the value at which a position aims
  abbrev aim : Parts → Wdl
  aim p = seen (is_won_here true (count_of_men p)) v

  own_is : (p : Parts) → Readings (Nears (aim p)) (own p) (aimed tables v p)
  unfolding aimed
  own_is p = own_near (aim p) (table_value tables p) (own p) (completes p)

  aim_turned : (p q : Parts) → count_of_men q + 1 ≡ count_of_men p → opposite (aim q) ≡ aim p
  aim_turned p q less = ap (λ b. opposite (seen b v)) (turns true (count_of_men q) (count_of_men p) less) ∙ seen_turned (is_won_here true (count_of_men p)) v

  value_near : (q : Parts) → IsPosition q → Searched (Nears (aim q)) (searched_where own (wdl_where own) q) (searched_where (aimed tables v) (wdl_where (aimed tables v)) q) → Readings (Nears (aim q)) (wdl_where own q) (wdl_where (aimed tables v) q)
  value_near q position h =
      let rules = value_too (Nears (aim q)) (nears-refl (aim q)) (nears-greater (aim q)) q _ _ h in
      subst (λ r. Readings (Nears (aim q)) r (wdl_where (aimed tables v) q)) (sym (where_meets_rule own q position))
      (subst (λ r. Readings (Nears (aim q)) (wdl_from_search q (searched_where own (wdl_where own) q)) r) (sym (where_meets_rule (aimed tables v) q position)) rules)

  near_to : (n : ℕ) (p : Parts) → IsPosition p → count_of_men p ≤ n → Searched (Nears (aim p)) (searched_where own (wdl_where own) p) (searched_where (aimed tables v) (wdl_where (aimed tables v)) p)
  near_to zero p position few = absurd (let two = men_of_position p position in omega arith)
  near_to (suc n) p position few =
      searched (Nears (aim p)) (nears-refl (aim p)) (nears-greater (aim p)) (wdl_where own) (wdl_where (aimed tables v)) p
      (λ m q c a.
      (let less = falls p q m position c a in
      let after = still p q m position a in
      let here = value_near q after (near_to n q after (omega arith)) in
      subst (λ u. Readings (Nears u) (opposite_reading (wdl_where own q)) (opposite_reading (wdl_where (aimed tables v) q))) (aim_turned p q less) (turned_near (aim q) _ _ here)))
      own (aimed tables v) (own_is p)

  pub near : (p : Parts) → IsPosition p → Readings (Nears (aim p)) (wdl_where own p) (wdl_where (aimed tables v) p)
  near p position = value_near p position (near_to (count_of_men p) p position (omega arith))

-- ---- a value between two

from_two : (v a b : Wdl) (r : Reading) → lies_outside v a b ≡ false → Readings (Nears v) (Ok a) r → Readings (Nears v) (Ok b) r → r ≡ Ok v
from_two v a b (Ok x) out ha hb = ap (λ (y : Wdl). Ok y) (same_points x v (omega (arith, below, above)))
  where
    parts : (s t u w : Bool) → nat_lt (points v) (points a) ≡ s → nat_lt (points v) (points b) ≡ t → nat_lt (points a) (points v) ≡ u → nat_lt (points b) (points v) ≡ w → ((s && t) || (u && w)) ≡ false → (points x ≤ points v) × (points v ≤ points x)
    parts s t u w es et eu ew e = (under s t es et (first_of s t u w e), over u w eu ew (second_of s t u w e))
      where
        first_of : (s t u w : Bool) → ((s && t) || (u && w)) ≡ false → (s && t) ≡ false
        first_of true true u w e = e
        first_of true false u w e = refl
        first_of false t u w e = refl

        second_of : (s t u w : Bool) → ((s && t) || (u && w)) ≡ false → (u && w) ≡ false
        second_of true true u w e = absurd (false≢true (sym e))
        second_of true false u w e = e
        second_of false t u w e = e

        under : (s t : Bool) → nat_lt (points v) (points a) ≡ s → nat_lt (points v) (points b) ≡ t → (s && t) ≡ false → points x ≤ points v
        under true true es et e = absurd (false≢true (sym e))
        under true false es et e = hb.not_above (points v) (ltb-false (points v) (points b) et) (omega arith)
        under false t es et e = ha.not_above (points v) (ltb-false (points v) (points a) es) (omega arith)

        over : (u w : Bool) → nat_lt (points a) (points v) ≡ u → nat_lt (points b) (points v) ≡ w → (u && w) ≡ false → points v ≤ points x
        over true true eu ew e = absurd (false≢true (sym e))
        over true false eu ew e = hb.not_below (points v) (ltb-false (points b) (points v) ew) (omega arith)
        over false w eu ew e = ha.not_below (points v) (ltb-false (points a) (points v) eu) (omega arith)

    both : (points x ≤ points v) × (points v ≤ points x)
    both = parts _ _ _ _ refl refl refl refl out

    below : points x ≤ points v
    below = both.0

    above : points v ≤ points x
    above = both.1
from_two v a b (Err fault) out ha hb = absurd ha

-- it is that of the completion aimed at it
pub between_aimed : (tables : Tables) (q : Parts) → IsPosition q → (v a b : Wdl) → extreme_value tables true q ≡ Ok a → extreme_value tables false q ≡ Ok b → lies_outside v a b ≡ false
    → wdl_where (aimed tables (seen (is_won_here true (count_of_men q)) v)) q ≡ Ok v
between_aimed tables q position v a b ea eb out =
    from_two v a b _ out (near_in true a ea) (near_in false b eb)
  where
    near_in : (odd : Bool) (x : Wdl) → extreme_value tables odd q ≡ Ok x → Readings (Nears v) (Ok x) (wdl_where (aimed tables (seen (is_won_here true (count_of_men q)) v)) q)
    near_in odd x e =
        let h = near tables (extreme tables odd) (extreme-completes tables odd) (seen (is_won_here true (count_of_men q)) v) q position in
        subst (λ u. Readings (Nears u) (Ok x) (wdl_where (aimed tables (seen (is_won_here true (count_of_men q)) v)) q)) (seen_twice (is_won_here true (count_of_men q)) v)
        (subst (λ r. Readings (Nears (seen (is_won_here true (count_of_men q)) (seen (is_won_here true (count_of_men q)) v))) r (wdl_where (aimed tables (seen (is_won_here true (count_of_men q)) v)) q)) e h)
