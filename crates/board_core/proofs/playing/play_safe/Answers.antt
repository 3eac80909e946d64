use Rattle.board_core.proofs.Safety.{men_of}
use Rattle.board_core.proofs.playing.play_safe.Goals as goal

pub returns-clause-sides : goal.returns-clause-sides
returns-clause-sides c =
    rw (men_of c.args.p.now c.make.new.copy c.args.m.now c.args.case c.make.ensures) c.sides_after.ensures
