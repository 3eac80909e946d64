use Rattle.std.proofs.Common.{map, take, drop}
use Rattle.move_msg.specs.Manifests.{entry_of}
use Rattle.relay_world.proofs.Placing.{AreListed}
use Rattle.relay_world.proofs.listing.manifest_of.Given as goal

abbrev pub invariant-loop-i : goal.invariant-loop-i
invariant-loop-i l =
    AreListed (take l.i (map (λ f. record { name = f.0.now; bytes = f.1.now }) l.files)) (drop l.i (map (λ f. record { name = f.0.now; bytes = f.1.now }) l.files)) (map entry_of l.lines.items)
