use Rattle.std.proofs.Common.{◌≡◌, ◌≤◌, ℕ, List, ◌++◌, true, false}
use Rattle.std.specs.Io.KnownBytes.{Appends, Consumes}
use Rattle.http_server.specs.Connection.{config_of, history}
use Rattle.http_server.specs.Exchange.{Calls}
use Rattle.http_server.specs.declared.state.State.TheVariants.{Aborted}
use Rattle.http_loop.specs.Turns.{SendsSome}
use Rattle.http_loop.proofs.peer.take_turn.Given as goal

abbrev pub invariant-loop : goal.invariant-loop
invariant-loop g l =
    let old = history l.fn.connection in
    let new = history l.connection in
    ((more : List ℕ) × Consumes (g.R.Read.remaining l.fn.reader) (g.R.Read.remaining l.reader) more
    × (new.received ≡ old.received ++ more))
    × ((more : List ℕ) × Appends (g.W.Write.contents l.fn.writer) (g.W.Write.contents l.writer) more
    × (new.sent ≡ old.sent ++ more))
    × Calls g.S.Service.answers l.fn.service l.service old.calls new.calls
    × (config_of l.connection ≡ config_of l.fn.connection)
    × (l.has_sent ≡ true → SendsSome old new)
    × (l.has_read ≡ false → new.received ≡ old.received)
    × (1 ≤ l.counter → new.state ≡ Aborted → ⊥)
