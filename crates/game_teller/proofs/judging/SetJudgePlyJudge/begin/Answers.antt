use Rattle.std.proofs.Common.{ap}
use Rattle.judge_core.specs.Tables.{Holding}
use Rattle.game_teller.proofs.FollowLaws.{set_begun, set_reads}
use Rattle.game_teller.proofs.judging.SetJudgePlyJudge.begin.Goals as goal

pub returns-in-Ok-clause-begun : goal.returns-in-Ok-clause-begun
returns-in-Ok-clause-begun g c = set_begun c.args.self.now.set.tables c.begin.new.self.tables c.args.start.now c.in-Ok.standing (ap (λ (h : Holding). h.tables) c.in-Ok.ensures.unchanged) c.in-Ok.ensures.at

pub returns-in-Ok-clause-made : goal.returns-in-Ok-clause-made
returns-in-Ok-clause-made g c = set_reads (g.S.System.outside c.args._system.now) _ _ _ (ap (λ (h : Holding). h.tables) c.in-Ok.ensures.unchanged)

pub returns-in-Err-clause-made : goal.returns-in-Err-clause-made
returns-in-Err-clause-made g c = set_reads (g.S.System.outside c.args._system.now) _ _ _ (ap (λ (h : Holding). h.tables) c.in-Err.ensures.unchanged)
