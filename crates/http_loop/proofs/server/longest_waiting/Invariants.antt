use Rattle.http_loop.proofs.WaitLaws.{IsLongestBelow}
use Rattle.http_loop.proofs.server.longest_waiting.Given as goal

abbrev pub invariant-loop-key : goal.invariant-loop-key
invariant-loop-key g l = IsLongestBelow l.fn.peers l.fn.newest l.longest l.key
