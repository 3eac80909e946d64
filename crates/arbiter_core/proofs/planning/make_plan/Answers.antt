use Rattle.std.proofs.Common.{◌≡◌, ℕ, ◌+◌, ◌<◌, ◌≤◌, List, [], ◌∷◌, ◌++◌, length, length-append, get_or, Option, Some, None, Result, Ok, Err, arith, refl, sym, ◌∙◌, ap, subst, append_assoc}
use Rattle.std.specs.Prelude.{OnErr}
use Rattle.board_core.specs.declared.parts.Parts.{Parts}
use Rattle.board_core.specs.declared.moves.Move.{Move}
use Rattle.board_core.specs.ComputedMoves.{position_after}
use Rattle.judge_core.specs.Answers.{ListsMovesForVerdict}
use Rattle.judge_core.specs.Tables.{Holding, Tables}
use Rattle.move_msg.specs.Numbers.{most_moves}
use Rattle.judge_core.specs.Games.{Rules}
use Rattle.judge_core.specs.Standings.{IsAt}
use Rattle.arbiter_core.specs.Recording.{ReorderBuffer}
use Rattle.arbiter_core.specs.Setups.{rules_at, terms_with}
use Rattle.arbiter_core.proofs.PlanLaws.{plan_starts, planned, ends_ruled, ends_none, ends_past, ends_illegal, goes_on, default_free, lists_first, lists_next, next_position}
use Rattle.arbiter_core.proofs.Settling.{reach_next}
use Rattle.arbiter_core.proofs.planning.make_plan.Goals as goal

pub loop-slot-init : goal.loop-slot-init
loop-slot-init c =
    let r : Rules = rules_at (terms_with c.args.terms.now c.args.tables.now) in
    let before : List Move = c.args.played.now.record.moves in
    let m : Move = c.args.ahead.now.m in
    let own = c.requires.in_order.played in
    let next = c.requires.next in
    let legal : position_after c.args.played.now.standing.position m ≡ Some c.args.ahead.now.position = sym (next_position r before c.args.played.now.standing m own.at) ∙ next.legal in
    let reached = reach_next r before m c.args.played.now.standing c.args.ahead.now.position c.args.played.now.record.verdict own.at own.ruled next.unruled own.reached legal in
    let one : c.push_reserved.new.self.items ≡ m ∷ [] = c.push_reserved.ensures.items ∙ ap (λ (xs : List Move). xs ++ m ∷ []) c.requires.none in
    let pushed : before ++ c.push_reserved.new.self.items ≡ before ++ m ∷ [] = ap (λ (xs : List Move). before ++ xs) one in
    let room = c.requires.room in
    let capacity = c.push_reserved.ensures.capacity in
    let size : length (before ++ c.push_reserved.new.self.items) ≡ length before + 1 = ap length pushed ∙ simp length-append in
    let short = next.short in
    let at : IsAt r (before ++ m ∷ []) c.in_ok-standing.standing = c.in_ok-standing.ensures.at r before m refl own.at legal in
    record {
      same = c.in_ok-standing.ensures.unchanged;
      room = omega arith;
      filled = ap length one;
      short = omega arith;
      plan = plan_starts r before m c.args.ahead.now.window.now _ _ _ pushed at (c.verdict-verdict.ensures r (before ++ m ∷ []) refl at) reached;
    }

pub returns-then-is_some-clause-planned : goal.returns-then-is_some-clause-planned
returns-then-is_some-clause-planned c =
    planned _ _ _ _ _ _ c.loop-slot.invariant.plan c.loop-slot.invariant.short
    (ends_ruled _ _ _ _ _ _ _ _ c.loop-slot.invariant.plan (sym c.is_some.ensures ∙ c.if-is_some.true))

-- what a slot holds is what the window has there
slot_is : (w v : ReorderBuffer) (i : ℕ) (o p : Option Move) → v ≡ w → i < length v → o ≡ get_or v i o → o ≡ p → (i < length w) × (get_or w i None ≡ p)
slot_is w v i o p e l is here = subst (λ (x : ReorderBuffer). (i < length x) × (get_or x i None ≡ p)) e (l, default_free v i None o l ∙ sym is ∙ here)

pub returns-in_default-clause-planned : goal.returns-in_default-clause-planned
returns-in_default-clause-planned c =
    let slot = slot_is c.args.ahead.now.window.now _ _ _ None c.places-slot-items.ensures.places c.loop-slot-test.true c.slot-item.is c.in_default.is in
    planned _ _ _ _ _ _ c.loop-slot.invariant.plan c.loop-slot.invariant.short (ends_none _ _ _ _ _ _ _ _ c.loop-slot.invariant.plan slot.0 slot.1)

pub returns-in_default-play-clause-planned : goal.returns-in_default-play-clause-planned
returns-in_default-play-clause-planned c =
    let slot = slot_is c.args.ahead.now.window.now _ _ _ (Some c.in-Some.m) c.places-slot-items.ensures.places c.loop-slot-test.true c.slot-item.is c.in-Some.is in
    planned _ _ _ _ _ _ c.loop-slot.invariant.plan c.loop-slot.invariant.short
    (ends_illegal _ _ _ _ _ _ _ _ _ c.loop-slot.invariant.plan slot.0 slot.1
    (ap (λ (p : Parts). position_after p c.in-Some.m) (sym c.position.ensures) ∙ sym c.play.ensures.computed ∙ c.in_default-play.is))

pub returns-clause-planned : goal.returns-clause-planned
returns-clause-planned c =
    let end : length c.args.ahead.now.window.now ≤ c.loop-slot.slot-index = subst (λ (w : ReorderBuffer). length w ≤ c.loop-slot.slot-index) c.places-slot-items.ensures.places c.loop-slot-test.false in
    planned _ _ _ _ _ _ c.loop-slot.invariant.plan c.loop-slot.invariant.short (ends_past _ _ _ _ _ _ _ _ c.loop-slot.invariant.plan end)

pub loop-slot-preserved : goal.loop-slot-preserved
loop-slot-preserved c =
    let r : Rules = rules_at (terms_with c.args.terms.now c.args.tables.now) in
    let m : Move = c.in-Some.m in
    let before : List Move = c.args.played.now.record.moves in
    let added : List Move = c.loop-slot.plan.moves.items in
    let moves : List Move = before ++ added in
    let slot = slot_is c.args.ahead.now.window.now _ _ _ (Some m) c.places-slot-items.ensures.places c.loop-slot-test.true c.slot-item.is c.in-Some.is in
    let tables = sym (ap (λ (h : Holding). h.tables) c.loop-slot.invariant.same) in
    let legal : position_after c.loop-slot.plan.standing.position m ≡ Some c.in-Some-play.position =
    ap (λ (p : Parts). position_after p m) (sym c.position.ensures) ∙ sym c.play.ensures.computed ∙ c.in-Some-play.is in
    let at : IsAt r (moves ++ m ∷ []) c.in_ok-plan.field-0 = c.in_ok-plan.ensures.at r moves m tables c.loop-slot.invariant.plan.at legal in
    let near : length c.args.played.now.record.moves + 1 + c.loop-slot.slot-index < most_moves = c.requires.in_order.near c.loop-slot.slot-index m slot.1 in
    let count = c.loop-slot.invariant.plan.count in
    let one : c.push_reserved-in-loop-slot.new.self.items ≡ added ++ m ∷ [] = c.push_reserved-in-loop-slot.ensures.items in
    let pushed : before ++ c.push_reserved-in-loop-slot.new.self.items ≡ moves ++ m ∷ [] = ap (λ (xs : List Move). before ++ xs) one ∙ sym (append_assoc before added (m ∷ [])) in
    let room = c.loop-slot.invariant.room in
    let filled = c.loop-slot.invariant.filled in
    let capacity = c.push_reserved-in-loop-slot.ensures.capacity in
    let size : length (before ++ c.push_reserved-in-loop-slot.new.self.items) ≡ length moves + 1 = ap length pushed ∙ simp length-append in
    let more : length c.push_reserved-in-loop-slot.new.self.items ≡ length added + 1 = ap length one ∙ simp length-append in
    record {
      same = c.in_ok-plan.ensures.unchanged ∙ c.loop-slot.invariant.same;
      room = omega arith;
      filled = omega arith;
      short = omega arith;
      plan = rw pushed (goes_on _ _ _ _ _ _ _ _ m _ _ c.loop-slot.invariant.plan (sym c.is_some.ensures ∙ c.if-is_some.false) slot.0 slot.1 at (c.verdict-plan.ensures r (moves ++ m ∷ []) refl at));
    }

owed : {P T E : Type 0} (r : Result T E) → P → OnErr r P
owed (Ok x) p = tt
owed (Err e) p = p

-- memory is wanted where the position after the move lists moves
pub returns-in_err-standing-clause-memory : goal.returns-in_err-standing-clause-memory
returns-in_err-standing-clause-memory c =
    let r : Rules = rules_at (terms_with c.args.terms.now c.args.tables.now) in
    let before : List Move = c.args.played.now.record.moves in
    let m : Move = c.args.ahead.now.m in
    let own = c.requires.in_order.played in
    let next = c.requires.next in
    let legal : position_after c.args.played.now.standing.position m ≡ Some c.args.ahead.now.position = sym (next_position r before c.args.played.now.standing m own.at) ∙ next.legal in
    owed c.from_residual.result (lists_first r before m c.args.ahead.now.window.now c.args.ahead.now.position (reach_next r before m c.args.played.now.standing c.args.ahead.now.position c.args.played.now.record.verdict own.at own.ruled next.unruled own.reached legal) next.legal c.in_err-standing.ensures.memory)

-- or that after one that waited
pub returns-in_err-plan-clause-memory : goal.returns-in_err-plan-clause-memory
returns-in_err-plan-clause-memory c =
    let slot = slot_is c.args.ahead.now.window.now _ _ _ (Some c.in-Some.m) c.places-slot-items.ensures.places c.loop-slot-test.true c.slot-item.is c.in-Some.is in
    let legal : position_after c.loop-slot.plan.standing.position c.in-Some.m ≡ Some c.in-Some-play.position =
    ap (λ (p : Parts). position_after p c.in-Some.m) (sym c.position.ensures) ∙ sym c.play.ensures.computed ∙ c.in-Some-play.is in
    owed c.from_residual-in_err-plan.result (lists_next _ _ _ _ _ _ _ _ c.in-Some.m c.in-Some-play.position c.loop-slot.invariant.plan (sym c.is_some.ensures ∙ c.if-is_some.false) slot.0 slot.1 legal
    (subst (λ (t : Tables). ListsMovesForVerdict t c.in-Some-play.position) (ap (λ (h : Holding). h.tables) c.loop-slot.invariant.same) c.in_err-plan.ensures.memory))
