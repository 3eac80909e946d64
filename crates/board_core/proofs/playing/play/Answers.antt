use Rattle.std.proofs.Common.{arith}
use Rattle.std.proofs.lemmas.Bool.Decides.{Decides-not}
use Rattle.board_core.proofs.Safety.{men_of}
use Rattle.board_core.proofs.SoleKing.{one_king_after}
use Rattle.board_core.proofs.playing.play.Goals as goal

pub is_in_check-requires-clause-one : goal.is_in_check-requires-clause-one
is_in_check-requires-clause-one c =
    rw (men_of c.args.p.now c.make.new.copy c.args.m.now c.args.case c.make.ensures) (one_king_after c.args.p.now c.args.m.now c.args.case c.requires.position (omega arith) (omega arith) c.requires.rule)

pub is_in_check-requires-clause-sides : goal.is_in_check-requires-clause-sides
is_in_check-requires-clause-sides c =
    rw (men_of c.args.p.now c.make.new.copy c.args.m.now c.args.case c.make.ensures) c.sides_after.ensures

pub returns-clause-sides : goal.returns-clause-sides
returns-clause-sides c =
    rw (men_of c.args.p.now c.make.new.copy c.args.m.now c.args.case c.make.ensures) c.sides_after.ensures

pub returns-clause-safe : goal.returns-clause-safe
returns-clause-safe c = Decides-not _ c.is_in_check.ensures.relation
