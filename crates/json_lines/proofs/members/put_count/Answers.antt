use Rattle.std.proofs.Common.{rules}
use Rattle.json_lines.proofs.Pieces.{writes_count}
use Rattle.json_lines.proofs.members.put_count.Goals as goal

pub returns-in-Ok : goal.returns-in-Ok
returns-in-Ok g c = writes_count c.args.count _ _ (search rules) c.in-Ok.ensures.bytes
