use Rattle.std.proofs.Common.{◌≡◌, drop, map, slice_index}
use Rattle.place_index.specs.Inside.Turns.{turn_square, is_first_above}
use Rattle.place_index.proofs.turning.is_above.Given as goal

abbrev pub invariant-loop-code : goal.invariant-loop-code
invariant-loop-code l = is_first_above (map (λ c. turn_square l.turn (slice_index l.lone_squares c)) l.lead) ≡ is_first_above (map (λ c. turn_square l.turn (slice_index l.lone_squares c)) (drop l.code-index l.lead))
