use Rattle.std.proofs.Common.{◌≡◌, map, drop}
use Rattle.relay_world.specs.Gathering.{found_in, tables_from}
use Rattle.relay_world.proofs.gathering.add_all.Given as goal

-- what the rest adds to the tables so far is what all add, and the cache stays
abbrev pub invariant-loop-place : goal.invariant-loop-place
invariant-loop-place l =
    (tables_from l.set.tables l.place (map found_in (drop l.place (map (λ f. record { name = f.0.now; bytes = f.1.now }) l.files))) ≡ tables_from l.fn.set.tables 0 (map found_in (map (λ f. record { name = f.0.now; bytes = f.1.now }) l.files)))
    × (l.set.cache ≡ l.fn.set.cache)
