use Rattle.std.proofs.Common.{◌∙◌, sym, ap, Ok, Bool, Option, Result}
use Rattle.std.proofs.lemmas.List.{take_all}
use Rattle.board_core.specs.declared.parts.Parts.{Parts}
use Rattle.board_core.specs.Moves.{IsLegal}
use Rattle.judge_core.specs.declared.fault.ValueFault.{ValueFault}
use Rattle.judge_core.specs.Distances.{is_quiet}
use Rattle.judge_core.specs.Tables.{Holding}
use Rattle.judge_core.specs.Inside.Precision.{no_moves, noted, precise_in}
use Rattle.judge_core.proofs.Asking.{at_item, with_all, walk-passed, walk-added}
use Rattle.judge_core.proofs.set.Set.precision_of_moves.Goals.{in-Some+in_ok-precise, in_default}
use Rattle.judge_core.proofs.set.Set.precision_of_moves.Goals as goal

pub after_quiet_move-requires : goal.after_quiet_move-requires
after_quiet_move-requires c = at_item (IsLegal c.args.position.now) c.in_ok-moves.moves.items c.deref-m-items.result.now c.loop-m.m-index c.m-item.result c.in_ok-moves.ensures.legal.sound c.deref-m-items.ensures.value c.loop-m-test.true c.m-item.is

pub loop-m-preserved : goal.loop-m-preserved
loop-m-preserved c =
    let p = c.args.position.now in
    let xs = c.deref-m-items.result.now in
    let say : Parts → Result (Option Bool) ValueFault = λ q. Ok (precise_in c.args.self.now.tables c.args.outcome c.args.plies q) in
    elim c.match-after_quiet_move.branch [
      | in-Some+in_ok-precise w ↦ (
        walk-added noted no_moves say (is_quiet p) p xs c.loop-m.m-index c.m-item.result c.loop-m.found _ c.loop-m-test.true c.m-item.is c.loop-m.invariant.0
            w.in-Some.after (Ok w.in_ok-precise.precise) (sym c.after_quiet_move.ensures ∙ w.in-Some.is) (ap (λ (o : Option Bool). Ok o) (w.in_ok-precise.ensures.is ∙ ap (λ (h : Holding). precise_in h.tables c.args.outcome c.args.plies w.in-Some.after) c.loop-m.invariant.1)) (w.found-is ∙ w.with-found.ensures),
        w.self-is ∙ w.in_ok-precise.ensures.unchanged ∙ c.loop-m.invariant.1,
      )
      | in_default w ↦ (
        walk-passed noted no_moves say (is_quiet p) p xs c.loop-m.m-index c.m-item.result c.loop-m.found _ c.loop-m-test.true c.m-item.is c.loop-m.invariant.0
            (sym c.after_quiet_move.ensures ∙ w.in_default.is) w.found-is,
        w.self-is ∙ c.loop-m.invariant.1,
      )
    ]

pub returns-clause-is : goal.returns-clause-is
returns-clause-is c =
    let say : Parts → Result (Option Bool) ValueFault = λ q. Ok (precise_in c.args.self.now.tables c.args.outcome c.args.plies q) in
    c.loop-m.invariant.0
    ∙ ap (with_all noted no_moves say (is_quiet c.args.position.now) c.args.position.now) (take_all _ _ c.loop-m-test.false ∙ c.deref-m-items.ensures.value ∙ c.in_ok-moves.ensures.computed)
