use Rattle.std.proofs.Common.{◌∙◌, sym, ap}
use Rattle.std.proofs.lemmas.List.{take_all}
use Rattle.board_core.specs.declared.parts.Parts.{Parts}
use Rattle.board_core.specs.Moves.{IsLegalPawnMove}
use Rattle.judge_core.specs.Values.{Reading, opposite_reading}
use Rattle.judge_core.specs.Inside.Determined.{step_value_in}
use Rattle.judge_core.specs.Distances.{is_pawn_step}
use Rattle.judge_core.specs.Inside.Counts.{no_steps, with_reading}
use Rattle.judge_core.specs.Tables.{Holding}
use Rattle.judge_core.proofs.Asking.{at_item, with_all, walk-passed, walk-added}
use Rattle.judge_core.proofs.Counting.{steps_result-is, no_pawns_reach}
use Rattle.judge_core.proofs.set.Set.pawns_reach.Goals.{in-Some, in_default}
use Rattle.judge_core.proofs.set.Set.pawns_reach.Goals as goal

pub returns-then-not-has_pawn-clause-is : goal.returns-then-not-has_pawn-clause-is
returns-then-not-has_pawn-clause-is c = no_pawns_reach (step_value_in c.args.within c.args.self.now.tables c.args.value) c.args.position.now c.args.value (c.has_pawn.ensures c.if-not-has_pawn.true)

pub after_pawn_step-requires : goal.after_pawn_step-requires
after_pawn_step-requires c = (at_item (IsLegalPawnMove c.args.position.now) c.in_ok-moves.moves.items c.deref-m-items.result.now c.loop-m.m-index c.m-item.result c.in_ok-moves.ensures.legal.sound c.deref-m-items.ensures.value c.loop-m-test.true c.m-item.is).0

pub loop-m-preserved : goal.loop-m-preserved
loop-m-preserved c =
    let say : Parts → Reading = λ q. opposite_reading (step_value_in c.args.within c.args.self.now.tables c.args.value q) in
    elim c.match-after_pawn_step.branch [
      | in-Some w ↦ (
        walk-added (with_reading c.args.value) no_steps say (is_pawn_step c.args.position.now) c.args.position.now c.deref-m-items.result.now c.loop-m.m-index c.m-item.result c.loop-m.steps _ c.loop-m-test.true c.m-item.is c.loop-m.invariant.0
            w.in-Some.after _ (sym c.after_pawn_step.ensures ∙ w.in-Some.is) (w.turned.ensures ∙ ap opposite_reading (w.step_value-reading.ensures.is ∙ ap (λ (h : Holding). step_value_in c.args.within h.tables c.args.value w.in-Some.after) c.loop-m.invariant.1)) (w.steps-is ∙ w.with-steps.ensures),
        w.self-is ∙ w.step_value-reading.ensures.unchanged ∙ c.loop-m.invariant.1,
      )
      | in_default w ↦ (
        walk-passed (with_reading c.args.value) no_steps say (is_pawn_step c.args.position.now) c.args.position.now c.deref-m-items.result.now c.loop-m.m-index c.m-item.result c.loop-m.steps _ c.loop-m-test.true c.m-item.is c.loop-m.invariant.0
            (sym c.after_pawn_step.ensures ∙ w.in_default.is) w.steps-is,
        w.self-is ∙ c.loop-m.invariant.1,
      )
    ]

pub returns-clause-is : goal.returns-clause-is
returns-clause-is c =
    let say : Parts → Reading = λ q. opposite_reading (step_value_in c.args.within c.args.self.now.tables c.args.value q) in
    let all = c.loop-m.invariant.0 ∙ ap (with_all (with_reading c.args.value) no_steps say (is_pawn_step c.args.position.now) c.args.position.now) (take_all _ _ c.loop-m-test.false) in
    steps_result-is (step_value_in c.args.within c.args.self.now.tables c.args.value) c.args.position.now c.args.value c.loop-m.steps _ c.result.result (c.deref-m-items.ensures.value ∙ c.in_ok-moves.ensures.computed) all c.result.ensures
