use Rattle.std.proofs.Common.{◌∙◌, sym}
use Rattle.judge_core.proofs.WholeGames.{is_first_at_end, is_going_at_end}
use Rattle.judge_core.proofs.game.end_of.Goals as goal

pub returns-in-Some-clause-value : goal.returns-in-Some-clause-value
returns-in-Some-clause-value c = λ rules delay at before. is_first_at_end rules c.args.moves.now c.args.standing.now at before c.in-Some.verdict (sym (c.verdict.ensures rules c.args.moves.now delay at) ∙ c.in-Some.is)

pub returns-in-None-clause-value : goal.returns-in-None-clause-value
returns-in-None-clause-value c = λ rules delay at before. is_going_at_end rules c.args.moves.now c.args.standing.now at before (sym (c.verdict.ensures rules c.args.moves.now delay at) ∙ c.in-None.is)
