use Rattle.std.proofs.Common.{refl}
use Rattle.http_loop.proofs.PeerLaws.{keeps_time, stays_idle}
use Rattle.http_loop.proofs.peer.Peer.take_turn.Goals as goal

pub returns-clause-since : goal.returns-clause-since
returns-clause-since g c = keeps_time c.args.now c.args.self.now _ c.take_turn-turn.result.has_sent _ c.take_turn-turn.result.has_read c.counted_from-self.ensures refl c.take_turn-turn.ensures.sends

pub returns-clause-idle : goal.returns-clause-idle
returns-clause-idle g c =
    stays_idle c.args.self.now _ c.take_turn-turn.result.has_sent c.take_turn-turn.result.has_read _ refl refl c.take_turn-turn.ensures.sends c.take_turn-turn.ensures.reads
