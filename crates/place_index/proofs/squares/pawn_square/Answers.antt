use Rattle.std.proofs.Common.{◌∙◌, arith}
use Rattle.place_index.proofs.Indices.IndexTables.{square_table}
use Rattle.place_index.proofs.Turns.TurnedPawns.{square_range}
use Rattle.place_index.proofs.squares.pawn_square.Goals as goal

pub at-requires : goal.at-requires
at-requires c = omega (arith, square_table c.args.number c.requires, (square_range c.args.number c.requires).1)

pub returns-clause-is : goal.returns-clause-is
returns-clause-is c = c.at.ensures ∙ square_table c.args.number c.requires

pub returns-clause-least : goal.returns-clause-least
returns-clause-least c = omega (arith, c.at.ensures, square_table c.args.number c.requires, (square_range c.args.number c.requires).0)

pub returns-clause-most : goal.returns-clause-most
returns-clause-most c = omega (arith, c.at.ensures, square_table c.args.number c.requires, (square_range c.args.number c.requires).1)
