use Rattle.std.proofs.Common.{◌≡◌, []}
use Rattle.std.specs.Prelude.{map, replicate}
use Rattle.arbiter_server.proofs.last_lines.LastLines.new.Given as goal

abbrev pub invariant-loop : goal.invariant-loop
invariant-loop l = map (λ text. text.items) l.places.items ≡ replicate l.counter []
