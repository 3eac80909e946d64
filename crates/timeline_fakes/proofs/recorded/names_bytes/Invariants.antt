use Rattle.std.proofs.Common.{◌≡◌, map, take}
use Rattle.std.specs.Prelude.{string_bytes}
use Rattle.timeline_fakes.proofs.recorded.names_bytes.Given as goal

abbrev pub invariant-loop-name : goal.invariant-loop-name
invariant-loop-name l = map (λ name. name.items) l.all.items ≡ map string_bytes (take l.name-index l.names)
