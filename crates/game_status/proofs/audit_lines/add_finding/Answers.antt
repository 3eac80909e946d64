use Rattle.std.proofs.Common.{◌∙◌, append_assoc, codes}
use Rattle.std.specs.Fmt.{decimal}
use Rattle.game_status.proofs.audit_lines.add_finding.Goals as goal

pub returns-in-BadMoves-clause-is : goal.returns-in-BadMoves-clause-is
returns-in-BadMoves-clause-is c = rw c.in-BadMoves.is (c.add_counted.ensures.is ∙ append_assoc c.args.line.now (codes "refused moves ") (decimal c.in-BadMoves.place))
