use Rattle.std.proofs.Common.{◌≡◌}
use Rattle.system_io.specs.UdpPorts.{HearsNothing, udp_facts}
use Rattle.system_io.proofs.udp_port.UdpPortPort.receive_in_time.Given as goal

-- no datagram came so far, and the addresses and the count of failures are the same
abbrev pub invariant-loop : goal.invariant-loop
invariant-loop g l = HearsNothing (udp_facts g.S.Socket.calls l.fn.self) (udp_facts g.S.Socket.calls l.self) × (l.self.to ≡ l.fn.self.to) × (l.self.failures ≡ l.fn.self.failures)
