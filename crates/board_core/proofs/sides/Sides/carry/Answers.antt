use Rattle.std.proofs.Common.{None, ◌∙◌}
use Rattle.std.proofs.Common.{set}
use Rattle.std.proofs.lemmas.List.{length-set}
use Rattle.board_core.proofs.sides.Sides.carry.Goals as goal

pub returns : goal.returns
returns c = λ men len is. c.put-2.ensures (set men c.args.from None) (length-set men c.args.from None ∙ len) (c.put.ensures men len is)
