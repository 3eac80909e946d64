-- The value of a position meets its rule: the bound on captures in a row cuts nothing off, since each takes a man.
use Rattle.std.proofs.Common.{◌≡◌, ◌∙◌, sym, ap, refl, ℕ, zero, suc, ◌<◌, ◌≤◌, Bool, true, false, cond, not, List, [], ◌∷◌, Option, Some, None, option_map, filter, arith, Result, Ok}
use Rattle.std.proofs.lemmas.Bool.{le-leb, lt-leb}
use Rattle.std.specs.Prelude.{OnErr, Err}
use Rattle.board_core.specs.declared.parts.Parts.{Parts}
use Rattle.board_core.specs.declared.moves.Move.{Move}
use Rattle.board_core.specs.Position.{IsPosition}
use Rattle.board_core.specs.ComputedMoves.{position_after, is_capture, is_en_passant, legal_moves, count_of_men}
use Rattle.board_core.proofs.ComputedMoves.{position_legal}
use Rattle.board_core.proofs.ComputedMen.{men_of_position}
use Rattle.board_core.proofs.Preserved.{IsPosition-play}
use Rattle.judge_core.specs.declared.wdl.Wdl.TheVariants.{Draw}
use Rattle.judge_core.specs.declared.fault.ValueFault.{ValueFault}
use Rattle.judge_core.specs.declared.found.CaptureSearch.{CaptureSearch}
use Rattle.judge_core.specs.Values.{Reading, opposite_reading}
use Rattle.judge_core.specs.Tables.{Tables, table_value}
use Rattle.judge_core.specs.Probing.{values_after, searched_where, searched_by, wdl_from_search, wdl_by, wdl_to, wdl_where, wdl_of, worth_in}
use Rattle.judge_core.proofs.Captures.{falls}

-- two ways to tell a value agree after each capture
abbrev pub Agree : (Parts → Reading) → (Parts → Reading) → Parts → Type 0
Agree f g p = (m : Move) (q : Parts) → is_capture p m ≡ true → position_after p m ≡ Some q → f q ≡ g q

same_reading : (f g : Parts → Reading) (o : Option Parts) → ((q : Parts) → o ≡ Some q → f q ≡ g q) → option_map (λ q. opposite_reading (f q)) o ≡ option_map (λ q. opposite_reading (g q)) o
same_reading f g None h = refl
same_reading f g (Some q) h = ap (λ (r : Reading). Some (opposite_reading r)) (h q refl)

module _ (f g : Parts → Reading) (p : Parts) (agree : Agree f g p) where
  pub same_all : (ms : List Move) → values_after f p (filter (is_capture p) ms) ≡ values_after g p (filter (is_capture p) ms)
  same_all [] = refl
  same_all (m ∷ ms) = step (same_all ms) (is_capture p m) refl
    where
      step : values_after f p (filter (is_capture p) ms) ≡ values_after g p (filter (is_capture p) ms) → (b : Bool) → is_capture p m ≡ b → values_after f p (filter (is_capture p) (m ∷ ms)) ≡ values_after g p (filter (is_capture p) (m ∷ ms))
      step rest true e = rw (e, same_reading f g (position_after p m) (λ q. agree m q e), rest) refl
      step rest false e = rw e rest

  same_some : (test : Move → Bool) (ms : List Move) → values_after f p (filter test (filter (is_capture p) ms)) ≡ values_after g p (filter test (filter (is_capture p) ms))
  same_some test [] = refl
  same_some test (m ∷ ms) = step (same_some test ms) (is_capture p m) (test m) refl refl
    where
      step : values_after f p (filter test (filter (is_capture p) ms)) ≡ values_after g p (filter test (filter (is_capture p) ms)) → (b t : Bool) → is_capture p m ≡ b → test m ≡ t → values_after f p (filter test (filter (is_capture p) (m ∷ ms))) ≡ values_after g p (filter test (filter (is_capture p) (m ∷ ms)))
      step rest true true e et = rw (e, et, same_reading f g (position_after p m) (λ q. agree m q e), rest) refl
      step rest true false e et = rw (e, et) rest
      step rest false t e et = rw e rest

  pub same_searched : (own : Parts → Reading) → searched_where own f p ≡ searched_where own g p
  unfolding searched_where
  same_searched own =
      rw (same_all (legal_moves p), same_some (λ m. not (is_en_passant p m)) (legal_moves p), same_some (is_en_passant p) (legal_moves p)) refl

same_rule : (own f g : Parts → Reading) (p : Parts) → Agree f g p → wdl_from_search p (searched_where own f p) ≡ wdl_from_search p (searched_where own g p)
same_rule own f g p agree = ap (wdl_from_search p) (same_searched f g p agree own)

pub still : (p q : Parts) (m : Move) → IsPosition p → position_after p m ≡ Some q → IsPosition q
still p q m position e = IsPosition-play p m q position (position_legal p m q e)

-- more captures in a row than men are the same as so many
enough : (own : Parts → Reading) (n k : ℕ) (p : Parts) → IsPosition p → count_of_men p ≤ n → count_of_men p ≤ k → wdl_to own n p ≡ wdl_to own k p
unfolding wdl_to
enough own zero k p position a b = absurd (let two = men_of_position p position in omega arith)
enough own (suc n) zero p position a b = absurd (let two = men_of_position p position in omega arith)
enough own (suc n) (suc k) p position a b =
    same_rule own (wdl_to own n) (wdl_to own k) p (λ m q c e. (let less = falls p q m position c e in enough own n k q (still p q m position e) (omega arith) (omega arith)))

step_in : (own : Parts → Reading) (n : ℕ) (p : Parts) → IsPosition p → n ≡ count_of_men p → wdl_to own n p ≡ wdl_from_search p (searched_where own (wdl_where own) p)
unfolding wdl_to wdl_where
step_in own zero p position e = absurd (let two = men_of_position p position in omega arith)
step_in own (suc n) p position e =
    same_rule own (wdl_to own n) (wdl_where own) p (λ m q c a. (let less = falls p q m position c a in enough own n (count_of_men q) q (still p q m position a) (omega arith) (omega arith)))

opened : (own : Parts → Reading) (p : Parts) → wdl_where own p ≡ wdl_to own (count_of_men p) p
unfolding wdl_where
opened own p = refl

-- by whatever the own tables say
pub where_meets_rule : (own : Parts → Reading) (p : Parts) → IsPosition p → wdl_where own p ≡ wdl_from_search p (searched_where own (wdl_where own) p)
where_meets_rule own p position = opened own p ∙ step_in own (count_of_men p) p position refl

pub meets_rule : (tables : Tables) (p : Parts) → IsPosition p → wdl_of tables p ≡ wdl_by tables (wdl_of tables) p
unfolding wdl_of searched_by
meets_rule tables p position = where_meets_rule (table_value tables) p position

-- a position of two men, and one of more
pub where_bare : (own : Parts → Reading) (p : Parts) → IsPosition p → count_of_men p ≤ 2 → Ok Draw ≡ wdl_where own p
where_bare own p position few = sym (where_meets_rule own p position ∙ ap (λ b. cond b (Ok Draw) (worth_in (searched_where own (wdl_where own) p))) (le-leb (count_of_men p) 2 few))

pub where_searched : (own : Parts → Reading) (p : Parts) (w : Result CaptureSearch ValueFault) → IsPosition p → 2 < count_of_men p → w ≡ searched_where own (wdl_where own) p → worth_in w ≡ wdl_where own p
where_searched own p w position many e = sym (where_meets_rule own p position ∙ ap (λ b. cond b (Ok Draw) (worth_in (searched_where own (wdl_where own) p))) (lt-leb (count_of_men p) 2 many) ∙ ap worth_in (sym e))

pub bare : (tables : Tables) (p : Parts) → IsPosition p → count_of_men p ≤ 2 → Ok Draw ≡ wdl_of tables p
unfolding wdl_of
bare tables p position few = where_bare (table_value tables) p position few

pub searched : (tables : Tables) (p : Parts) (w : Result CaptureSearch ValueFault) → IsPosition p → 2 < count_of_men p → w ≡ searched_by tables (wdl_of tables) p → worth_in w ≡ wdl_of tables p
unfolding wdl_of searched_by
searched tables p w position many e = where_searched (table_value tables) p w position many e

-- what holds at all holds where there is an error
pub always_err : {A E : Type 0} {X : Type 0} (r : Result A E) → X → OnErr r X
always_err (Ok a) x = tt
always_err (Err fault) x = x
