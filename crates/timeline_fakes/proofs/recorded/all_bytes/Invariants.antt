use Rattle.std.proofs.Common.{◌≡◌, map, take}
use Rattle.timeline_fakes.proofs.recorded.all_bytes.Given as goal

abbrev pub invariant-loop-text : goal.invariant-loop-text
invariant-loop-text l = map (λ w. w.items) l.all.items ≡ map (λ s. s.now) (take l.text-index l.texts)
