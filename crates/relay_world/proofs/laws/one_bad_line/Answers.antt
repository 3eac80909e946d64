use Rattle.relay_world.proofs.BadLines.{one_first, spells_none}
use Rattle.relay_world.proofs.laws.one_bad_line.Goals as goal

pub returns : goal.returns
returns c = record { none = spells_none; one = one_first }
