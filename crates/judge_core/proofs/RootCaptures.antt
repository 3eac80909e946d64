-- No capture is worth more than the position, but for a mate.
use Rattle.std.proofs.Common.{◌≡◌, ◌∙◌, sym, ap, refl, subst, ◌<◌, ◌≤◌, nat_lt, Bool, true, false, not, List, [], ◌∷◌, ◌++◌, Option, Some, None, option_map, Ok, Err, filter, filter_map, fold, cond, inl, inr, arith}
use Rattle.std.specs.List.{Contains, list_all}
use Rattle.std.specs.Result.{result_ok}
use Rattle.std.proofs.lemmas.Bool.{and_parts, ltb-true, ltb-false, lt-leb}
use Rattle.std.proofs.lemmas.List.Elements.{Contains-append_cases, Contains-append_right}
use Rattle.board_core.specs.declared.parts.Parts.{Parts}
use Rattle.board_core.specs.declared.moves.Move.{Move}
use Rattle.board_core.specs.Position.{IsPosition}
use Rattle.board_core.specs.ComputedMoves.{position_after, legal_moves, legal_captures, is_capture, is_en_passant, count_of_men}
use Rattle.board_core.proofs.ComputedMen.{men_of_position}
use Rattle.judge_core.specs.declared.fault.ValueFault.{ValueFault}
use Rattle.judge_core.specs.declared.found.CaptureSearch.{CaptureSearch}
use Rattle.judge_core.specs.declared.root_move.RootMove.{RootMove}
use Rattle.judge_core.specs.declared.wdl.Wdl.{Wdl}
use Rattle.judge_core.specs.declared.wdl.Wdl.TheVariants.{Loss, Draw}
use Rattle.judge_core.specs.Values.{Reading, points, greater, opposite_reading}
use Rattle.judge_core.specs.Tables.{Tables, table_value}
use Rattle.judge_core.specs.Asked.{asked, fault_in, unless}
use Rattle.judge_core.specs.Probing.{values_after, greatest_value, value_or_loss, is_forced, are_en_passant, searched_by, searched_where, worth, worth_in, wdl_of}
use Rattle.judge_core.specs.Root.{effect_of, captures, is_checkmate, root_move_by, root_move_at, root_moves_by}
use Rattle.judge_core.specs.RootLaws.{NoCaptureIsBetter}
use Rattle.judge_core.proofs.Captures.{falls, passant_is_capture}
use Rattle.judge_core.specs.Distances.{moves_pawn, dtz_of}
use Rattle.judge_core.proofs.Effects.{effect_by}
use Rattle.judge_core.proofs.Rule.{meets_rule, still}

-- ---- members

none_there : {X : Type 0} (x : X) → Contains [] x → ⊥
none_there x has = (let lt = has.1 in absurd (omega (arith, lt)))

pub only_there : {X : Type 0} (y x : X) → Contains (y ∷ []) x → y ≡ x
only_there y x (k, lt, e) = (let zero_k : k ≡ 0 = omega (arith, lt) in rw zero_k at e)

-- what an item of a list without some comes from
pub from_item : {X Y : Type 0} (f : X → Option Y) (xs : List X) (y : Y) → Contains (filter_map f xs) y → (x : X) × Contains xs x × (f x ≡ Some y)
from_item f [] y has = absurd (none_there y has)
from_item f (x ∷ xs) y has = step (from_item f xs y) (f x) refl
  where
    later : (z : _) × Contains xs z × (f z ≡ Some y) → (z : _) × Contains (x ∷ xs) z × (f z ≡ Some y)
    later found = (found.0, Contains-append_right (x ∷ []) xs found.0 found.1, found.2)

    step : (Contains (filter_map f xs) y → (z : _) × Contains xs z × (f z ≡ Some y)) → (o : Option _) → f x ≡ o → (z : _) × Contains (x ∷ xs) z × (f z ≡ Some y)
    step rest None e = later (rest (rw e at has))
    step rest (Some z) e = elim (Contains-append_cases (z ∷ []) (filter_map f xs) y (rw e at has)) [
      | inl here ↦ (x, (0, omega arith, refl), e ∙ ap (λ w. Some w) (only_there z y here))
      | inr there ↦ later (rest there)
    ]

-- an item that passes a test is among those that do
pub passes_there : {X : Type 0} (t : X → Bool) (xs : List X) (x : X) → Contains xs x → t x ≡ true → Contains (filter t xs) x
passes_there t [] x has e = absurd (none_there x has)
passes_there t (y ∷ ys) x has e = elim (Contains-append_cases (y ∷ []) ys x has) [
  | inl here ↦ head (only_there y x here)
  | inr there ↦ tail (passes_there t ys x there e) (t y) refl
]
  where
    head : y ≡ x → Contains (filter t (y ∷ ys)) x
    head same = (let ty : t y ≡ true = ap t same ∙ e in rw ty (0, omega arith, same))

    tail : Contains (filter t ys) x → (b : Bool) → t y ≡ b → Contains (filter t (y ∷ ys)) x
    tail there true ty = rw ty (Contains-append_right (y ∷ []) (filter t ys) x there)
    tail there false ty = rw ty there

-- ---- the greatest of some values

pub greater_left : (a b : Wdl) → points a ≤ points (greater a b)
unfolding greater
greater_left a b = step (nat_lt (points a) (points b)) refl
  where
    step : (t : Bool) → nat_lt (points a) (points b) ≡ t → points a ≤ points (cond t b a)
    step true e = (let lt = ltb-true (points a) (points b) e in omega (arith, lt))
    step false e = omega arith

pub greater_right : (a b : Wdl) → points b ≤ points (greater a b)
unfolding greater
greater_right a b = step (nat_lt (points a) (points b)) refl
  where
    step : (t : Bool) → nat_lt (points a) (points b) ≡ t → points b ≤ points (cond t b a)
    step true e = omega arith
    step false e = (let le = ltb-false (points a) (points b) e in omega (arith, le))

from_start : (a : Wdl) (vs : List Wdl) → points a ≤ points (fold greater a vs)
from_start a [] = omega arith
from_start a (v ∷ vs) = (let one = greater_left a v in let rest = from_start (greater a v) vs in omega (arith, one, rest))

-- the value of the position after a move is at most the greatest of all
among : (say : Parts → Reading) (p : Parts) (a : Wdl) (ms : List Move) (m : Move) (q : Parts) (u : Wdl) → Contains ms m → position_after p m ≡ Some q → say q ≡ Ok u → points u ≤ points (fold greater a (filter_map result_ok (asked say p ms)))
among say p a [] m q u has eq eu = absurd (none_there m has)
among say p a (x ∷ xs) m q u has eq eu = elim (Contains-append_cases (x ∷ []) xs m has) [
  | inl here ↦ (let ex : position_after p x ≡ Some q = ap (position_after p) (only_there x m here) ∙ eq in
      let one = greater_right a u in let rest = from_start (greater a u) (filter_map result_ok (asked say p xs)) in
      rw (ex, eu) (omega (arith, one, rest)))
  | inr there ↦ step (λ b. among say p b xs m q u there eq eu) (position_after p x) refl
]
  where
    step : ((b : Wdl) → points u ≤ points (fold greater b (filter_map result_ok (asked say p xs)))) → (o : Option Parts) → position_after p x ≡ o → points u ≤ points (fold greater a (filter_map result_ok (asked say p (x ∷ xs))))
    step rest None e = rw e (rest a)
    step rest (Some z) e = by_value (say z) refl
      where
        by_value : (r : Reading) → say z ≡ r → points u ≤ points (fold greater a (filter_map result_ok (asked say p (x ∷ xs))))
        by_value (Ok w) ew = rw (e, ew) (rest (greater a w))
        by_value (Err fault) ew = rw (e, ew) (rest a)

-- ---- the position

captures_so : (a b c : Bool) → captures (effect_by a b c) ≡ true → (a ≡ true → b ≡ true) → b ≡ true
captures_so true b c e h = h refl
captures_so false true c e h = refl
captures_so false false true e h = cc
captures_so false false false e h = cc

taken : (p : Parts) (m : Move) → captures (effect_of p m) ≡ true → is_capture p m ≡ true
unfolding effect_of
taken p m e = captures_so (is_en_passant p m) (is_capture p m) (moves_pawn p m) e (passant_is_capture p m)

all_are : (t : Move → Bool) (ms : List Move) (m : Move) → list_all t ms ≡ true → Contains ms m → t m ≡ true
all_are t [] m all has = absurd (none_there m has)
all_are t (x ∷ xs) m all has = elim (Contains-append_cases (x ∷ []) xs m has) [
  | inl here ↦ ap t (sym (only_there x m here)) ∙ (and_parts (t x) (list_all t xs) all).0
  | inr there ↦ all_are t xs m (and_parts (t x) (list_all t xs) all).1 there
]

forced_move : (p : Parts) (m : Move) → is_forced p ≡ true → Contains (legal_moves p) m → is_en_passant p m ≡ true
unfolding is_forced
forced_move p m e has = by_list (legal_moves p) e has
  where
    by_list : (ms : List Move) → are_en_passant p ms ≡ true → Contains ms m → is_en_passant p m ≡ true
    by_list [] e has = absurd (none_there m has)
    by_list (x ∷ xs) e has = all_are (is_en_passant p) (x ∷ xs) m e has

module _ (value : Parts → Reading) (p : Parts) (m : Move) (q : Parts) (u : Wdl) (has : Contains (legal_moves p) m) (takes : is_capture p m ≡ true) (eq : position_after p m ≡ Some q) (eu : opposite_reading (value q) ≡ Ok u) where
  abbrev value_after : Parts → Reading
  value_after = λ x. opposite_reading (value x)

  passant_most : is_en_passant p m ≡ true → points u ≤ points (greatest_value (values_after value p (filter (is_en_passant p) (legal_captures p))))
  passant_most e = among value_after p Loss (filter (is_en_passant p) (legal_captures p)) m q u (passes_there (is_en_passant p) (legal_captures p) m (passes_there (is_capture p) (legal_moves p) m has takes) e) eq eu

  other_most : is_en_passant p m ≡ false → points u ≤ points (greatest_value (values_after value p (filter (λ x. not (is_en_passant p x)) (legal_captures p))))
  other_most e = among value_after p Loss (filter (λ x. not (is_en_passant p x)) (legal_captures p)) m q u (passes_there (λ x. not (is_en_passant p x)) (legal_captures p) m (passes_there (is_capture p) (legal_moves p) m has takes) (ap not e)) eq eu

  pub worth_most : (w : CaptureSearch) → w.capture ≡ greatest_value (values_after value p (filter (λ x. not (is_en_passant p x)) (legal_captures p)))
      → w.passant ≡ greatest_value (values_after value p (filter (is_en_passant p) (legal_captures p))) → w.forced ≡ is_forced p → points u ≤ points (worth w)
  worth_most w ec ep ef = by_forced w.forced refl
    where
      left : points w.capture ≤ points (greater w.capture w.passant)
      left = greater_left w.capture w.passant

      right : points w.passant ≤ points (greater w.capture w.passant)
      right = greater_right w.capture w.passant

      whole : points (greater w.capture w.passant) ≤ points (greater (greater w.capture w.passant) w.own)
      whole = greater_left (greater w.capture w.passant) w.own

      by_forced : (b : Bool) → w.forced ≡ b → points u ≤ points (worth w)
      by_forced true e = rw e (subst (λ (x : Wdl). points u ≤ points x) (sym ep) (passant_most (forced_move p m (sym ef ∙ e) has)))
      by_forced false e = rw e (by_passant (is_en_passant p m) refl)
        where
          by_passant : (b : Bool) → is_en_passant p m ≡ b → points u ≤ points (greater (greater w.capture w.passant) w.own)
          by_passant true ee = (let most = subst (λ (x : Wdl). points u ≤ points x) (sym ep) (passant_most ee) in omega (arith, most, right, whole))
          by_passant false ee = (let most = subst (λ (x : Wdl). points u ≤ points x) (sym ec) (other_most ee) in omega (arith, most, left, whole))

  searched_most : (f : Option ValueFault) (w : CaptureSearch) (v : Wdl) → points u ≤ points (worth w) → worth_in (unless f (Ok w)) ≡ Ok v → points u ≤ points v
  searched_most None w v most e = (let same : worth w ≡ v = cc in subst (λ (x : Wdl). points u ≤ points x) same most)
  searched_most (Some fault) w v most e = absurd cc

module _ (tables : Tables) (p : Parts) (position : IsPosition p) where
  whole_value : (m : Move) (q : Parts) (u v : Wdl) → Contains (legal_moves p) m → is_capture p m ≡ true → position_after p m ≡ Some q → opposite_reading (wdl_of tables q) ≡ Ok u → wdl_of tables p ≡ Ok v → points u ≤ points v
  unfolding searched_by searched_where
  whole_value m q u v has takes eq eu ev =
      let men = men_of_position q (still p q m position eq) in
      let less = falls p q m position takes eq in
      let many : 2 < count_of_men p = omega (arith, men, less) in
      let rule = sym (ap (λ b. cond b (Ok Draw) (worth_in (searched_by tables (wdl_of tables) p))) (lt-leb (count_of_men p) 2 many)) ∙ sym (meets_rule tables p position) ∙ ev in
      let w : CaptureSearch = record {
        capture = greatest_value (values_after (wdl_of tables) p (filter (λ x. not (is_en_passant p x)) (legal_captures p)));
        passant = greatest_value (values_after (wdl_of tables) p (filter (is_en_passant p) (legal_captures p)));
        own = value_or_loss (table_value tables p);
        forced = is_forced p;
      } in
      searched_most (wdl_of tables) p m q u has takes eq eu (fault_in (values_after (wdl_of tables) p (legal_captures p) ++ table_value tables p ∷ [])) w v (worth_most (wdl_of tables) p m q u has takes eq eu w refl refl refl) rule

  of_move : (r : RootMove) (m : Move) (u v : Wdl) (o : Option Parts) → position_after p m ≡ o → Contains (legal_moves p) m → option_map (root_move_by (wdl_of tables) (dtz_of tables) p m) o ≡ Some r
      → captures r.effect ≡ true → is_checkmate r.state ≡ false → r.wdl ≡ Ok u → wdl_of tables p ≡ Ok v → points u ≤ points v
  of_move r m u v None eo has er takes going eu ev = absurd cc
  of_move r m u v (Some q) eo has er takes going eu ev =
      let same : root_move_by (wdl_of tables) (dtz_of tables) p m q ≡ r = cc in
      let takes' = ap (λ (x : RootMove). captures x.effect) same ∙ takes in
      let going' = ap (λ (x : RootMove). is_checkmate x.state) same ∙ going in
      let eu' = ap (λ (x : RootMove). x.wdl) same ∙ eu in
      whole_value m q u v has (taken p m takes') eo (rw going' at eu') ev

pub no_capture_is_better : NoCaptureIsBetter
unfolding root_moves_by
no_capture_is_better tables p r u v position has takes going eu ev =
    let found = from_item (root_move_at (wdl_of tables) (dtz_of tables) p) (legal_moves p) r has in
    of_move tables p position r found.0 u v (position_after p found.0) refl found.1 found.2 takes going eu ev
