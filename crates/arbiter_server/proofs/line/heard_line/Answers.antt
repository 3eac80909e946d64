use Rattle.std.proofs.Common.{◌∙◌}
use Rattle.arbiter_server.specs.ServedLines.{heard_line}
use Rattle.arbiter_server.proofs.line.heard_line.Goals as goal

pub returns : goal.returns
returns c = c.stamped.ensures (heard_line c.args.heard) (c.as_bytes.ensures.value ∙ c.as_str.ensures.value ∙ c.line.ensures)
