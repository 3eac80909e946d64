use Rattle.std.proofs.Common.{arith, rules}
use Rattle.board_core.proofs.rules.is_way_safe.Goals as goal

pub returns : goal.returns
returns c = (λ _ s way. c.loop-s.invariant s (omega arith) (omega arith), λ _. search rules)
