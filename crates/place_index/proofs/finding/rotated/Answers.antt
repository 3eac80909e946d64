use Rattle.std.proofs.Common.{◌∙◌, arith}
use Rattle.place_index.proofs.LookUp.TallyKeys.{rotate_is}
use Rattle.place_index.proofs.finding.rotated.Goals as goal

pub returns : goal.returns
returns c = c.rotate_left.ensures ∙ rotate_is c.args.tally (omega (arith, c.ranges.tally))
