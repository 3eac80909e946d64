use Rattle.std.proofs.Common.{sym, ◌∙◌}
use Rattle.std.proofs.lemmas.Bool.{false≢true}
use Rattle.board_core.proofs.SideSets.{set_of_side}
use Rattle.board_core.proofs.Steps.{some_same}
use Rattle.board_core.proofs.NextCapture.{goal_met, piece_goal}
use Rattle.board_core.proofs.capturing.goals.Goals as goal

pub returns-in-Some : goal.returns-in-Some
returns-in-Some c = λ m l _. goal_met c.args.p.now m c.of_side-enemy.result c.with.result l
    (λ t. rw (c.of_side-enemy.ensures, c.other.ensures) (set_of_side _ _ c.args.sides.now m.to c.requires t))
    (c.with.ensures.kept m.to)
    (λ e. let same = some_same _ _ (sym c.in-Some.is ∙ e) in rw (sym same) c.with.ensures.here)

pub returns-in-None : goal.returns-in-None
returns-in-None c = λ m l _. goal_met c.args.p.now m c.of_side-enemy.result c.of_side-enemy.result l
    (λ t. rw (c.of_side-enemy.ensures, c.other.ensures) (set_of_side _ _ c.args.sides.now m.to c.requires t))
    (λ b. b)
    (λ e. let f = sym c.in-None.is ∙ e in cc)

pub returns-then-ne : goal.returns-then-ne
returns-then-ne c = λ m l st. piece_goal c.args.p.now m c.args.kind c.of_side-enemy.result l st
    (λ e. let f = rw e at c.if-ne.ensures in false≢true (sym f))
    (λ t. rw (c.of_side-enemy.ensures, c.other.ensures) (set_of_side _ _ c.args.sides.now m.to c.requires t))
