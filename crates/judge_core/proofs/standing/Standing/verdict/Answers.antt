use Rattle.std.proofs.Common.{◌≤◌, sym, ap, subst, ◌∙◌}
use Rattle.board_core.specs.Delays.{most_delay}
use Rattle.judge_core.specs.Standings.{Reached, verdict_of}
use Rattle.judge_core.proofs.StoodPlies.{verdict_is}
use Rattle.judge_core.proofs.standing.Standing.verdict.Goals as goal

pub returns : goal.returns
returns c = λ rules moves d h.
    c.verdict_of.ensures.is ∙ ap (λ (s : Reached). verdict_of s.judged s.plies c.args.delay) c.self.view_is
    ∙ ap (verdict_of c.args.self.now.judged c.args.self.now.plies) (sym d)
    ∙ sym (verdict_is rules moves c.args.self.now (subst (λ n. n ≤ most_delay) (sym d) c.verdict_of.ensures.in_range) h)
