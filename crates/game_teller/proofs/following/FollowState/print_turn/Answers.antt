use Rattle.game_teller.proofs.StepLaws.{turn_printed, turn_stopped, turn_unprinted, turn_unstopped}
use Rattle.game_teller.proofs.following.FollowState.print_turn.Goals as goal

pub returns-in-Ok-print_standing-clause-made : goal.returns-in-Ok-print_standing-clause-made
returns-in-Ok-print_standing-clause-made g c =
    turn_printed (g.S.System.outside c.args.system.now) (g.J.PlyJudge.facts c.args.judge.now) (g.J.PlyJudge.facts c.turn.new.judge) c.args.self.now c.args.line.now c.turn.new.self _ _ _ c.in-Ok-print_standing.verdict c.in-Ok.ensures.made c.in-Ok-print_standing.ensures.made

pub returns-in-Err-print_standing-clause-made : goal.returns-in-Err-print_standing-clause-made
returns-in-Err-print_standing-clause-made g c =
    turn_unprinted (g.S.System.outside c.args.system.now) (g.J.PlyJudge.facts c.args.judge.now) (g.J.PlyJudge.facts c.turn.new.judge) c.args.self.now c.args.line.now c.turn.new.self _ _ _ c.in-Err-print_standing.fault c.in-Err-print_standing.fault c.in-Ok.ensures.made c.in-Err-print_standing.ensures.made

pub returns-in-Ok-print_stop-clause-made : goal.returns-in-Ok-print_stop-clause-made
returns-in-Ok-print_stop-clause-made g c =
    turn_stopped (g.S.System.outside c.args.system.now) (g.J.PlyJudge.facts c.args.judge.now) (g.J.PlyJudge.facts c.turn.new.judge) c.args.self.now c.args.line.now c.turn.new.self _ _ _ c.in-Err.stop _ c.in-Err.ensures.made c.in-Ok-print_stop.ensures.made

pub returns-in-Err-print_stop-clause-made : goal.returns-in-Err-print_stop-clause-made
returns-in-Err-print_stop-clause-made g c =
    turn_unstopped (g.S.System.outside c.args.system.now) (g.J.PlyJudge.facts c.args.judge.now) (g.J.PlyJudge.facts c.turn.new.judge) c.args.self.now c.args.line.now c.turn.new.self _ _ _ c.in-Err.stop c.in-Err-print_stop.fault c.in-Err-print_stop.fault c.in-Err.ensures.made c.in-Err-print_stop.ensures.made
