use Rattle.std.proofs.Common.{◌≡◌, ◌≤◌, OnErr, map, take}
use Rattle.system_io.specs.Failures.{Risen}
use Rattle.system_io.specs.Histories.{Passes}
use Rattle.system_io.specs.UdpPorts.{sent_to_each}
use Rattle.system_io.proofs.udp_port.UdpPortPort.send.Given as goal

-- so far it went to those before this place; the addresses and the sender are the same, the count of failures didn't fall, and where a
-- send failed it rose
abbrev pub invariant-loop-place : goal.invariant-loop-place
invariant-loop-place g l = (l.self.to ≡ l.fn.self.to) × (l.self.sender ≡ l.fn.self.sender) × (l.fn.self.failures ≤ l.self.failures) × OnErr l.sent (Risen l.fn.self.failures l.self.failures) × Passes (g.S.Socket.calls l.fn.self.socket) (g.S.Socket.calls l.self.socket) (sent_to_each l.fn.self.sender (take l.place (map (λ r. r.who) l.fn.self.to.items)) l.bytes)
