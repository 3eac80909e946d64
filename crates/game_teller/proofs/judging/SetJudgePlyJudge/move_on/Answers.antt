use Rattle.std.proofs.Common.{ap}
use Rattle.judge_core.specs.Tables.{Holding}
use Rattle.game_teller.proofs.FollowLaws.{set_on, set_reads}
use Rattle.game_teller.proofs.judging.SetJudgePlyJudge.move_on.Goals as goal

pub returns-in-Ok-clause-on : goal.returns-in-Ok-clause-on
returns-in-Ok-clause-on g c = set_on c.args.self.now.set.tables c.move_on.new.self.tables c.args.standing.now c.args.position c.in-Ok.standing (ap (λ (h : Holding). h.tables) c.in-Ok.ensures.unchanged) c.in-Ok.ensures.at

pub returns-in-Ok-clause-made : goal.returns-in-Ok-clause-made
returns-in-Ok-clause-made g c = set_reads (g.S.System.outside c.args._system.now) _ _ _ (ap (λ (h : Holding). h.tables) c.in-Ok.ensures.unchanged)

pub returns-in-Err-clause-made : goal.returns-in-Err-clause-made
returns-in-Err-clause-made g c = set_reads (g.S.System.outside c.args._system.now) _ _ _ (ap (λ (h : Holding). h.tables) c.in-Err.ensures.unchanged)
