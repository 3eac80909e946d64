use Rattle.std.proofs.Common.{map, take, Option}
use Rattle.std.specs.declared.net.socket_addr.SocketAddr.{SocketAddr}
use Rattle.timeline.specs.Outsides.{AreNamed}
use Rattle.timeline_fakes.proofs.memory_port.all_named.Given as goal

abbrev pub invariant-loop-word : goal.invariant-loop-word
invariant-loop-word l = (own : Option SocketAddr) → AreNamed own (map (λ s. s.now) (take l.word-index l.words)) l.all.items
