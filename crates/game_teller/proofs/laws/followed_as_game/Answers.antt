use Rattle.game_teller.proofs.AgreeLaws.{followed_as_game as agree}
use Rattle.game_teller.proofs.laws.followed_as_game.Goals as goal

pub returns : goal.returns
returns g c = agree c.one_move.ensures (g.J.PlyJudge.facts c.args._judge.now) (g.S.System.outside c.args._system.now).input
