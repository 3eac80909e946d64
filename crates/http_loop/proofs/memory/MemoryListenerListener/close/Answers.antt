use Rattle.std.proofs.Common.{rules}
use Rattle.http_loop.proofs.MemoryLaws.{not_open_past}
use Rattle.http_loop.proofs.memory.MemoryListenerListener.close.Goals as goal

pub returns-then-key-len-clause-streams : goal.returns-then-key-len-clause-streams
returns-then-key-len-clause-streams c = not_open_past _ _ c.args.key _ (search rules)
