use Rattle.pgn_games.proofs.GameLaws.{continues_same, continues_then}
use Rattle.pgn_games.proofs.LineReadLaws.{no_room}
use Rattle.pgn_games.proofs.ReadLaws.{known_map}
use Rattle.pgn_games.proofs.telling.pass_comment.Goals as goal

pub returns-clause-told : goal.returns-clause-told
returns-clause-told g c =
    known_map _ _ _ _ (λ x y e. continues_then _ _ _ _ _ _ (continues_same _ _ _ e) (c.in_ok-put_closing.ensures.told _)) (c.in_ok-closing.ensures.closes c.args.cursor.now.number)

pub returns-in_err-put_closing-clause-made : goal.returns-in_err-put_closing-clause-made
returns-in_err-put_closing-clause-made g c =
    no_room (g.S.System.outside c.args.system.now) _ _ _ _ _ c.from_residual-in_err-put_closing.result c.from_residual-in_err-put_closing.ensures.1 c.in_ok-closing.ensures.made
