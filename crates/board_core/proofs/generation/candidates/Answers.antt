use Rattle.std.proofs.Common.{sym, ◌∙◌}
use Rattle.board_core.proofs.Steps.{capture_whole, some_same}
use Rattle.board_core.proofs.generation.candidates.Goals as goal

pub returns-in-Some : goal.returns-in-Some
returns-in-Some c = λ m l here. rw c.bitand.ensures (
    capture_whole _ _ c.args.v.now m _ _ c.in-Captures.is c.requires.survey l (c.targets-set.ensures m l.0 here) c.with.ensures.kept
    (λ e. let same = some_same _ _ (sym c.in-Some.is ∙ e) in rw (sym same) c.with.ensures.here))

pub returns-in-None : goal.returns-in-None
returns-in-None c = λ m l here. rw c.bitand-in-None.ensures (
    capture_whole _ _ c.args.v.now m _ _ c.in-Captures.is c.requires.survey l (c.targets-set.ensures m l.0 here) (λ s b. b)
    (λ e. let f = sym c.in-None.is ∙ e in cc))
