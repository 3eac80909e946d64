use Rattle.std.proofs.Common.{◌≡◌, ◌+◌, false, drop}
use Rattle.std.specs.Prelude.{option_map}
use Rattle.pgn_games.specs.Tags.{closes_at}
use Rattle.pgn_games.proofs.tag_pair.closes_at.Given as goal

-- the quote is so many bytes behind the place
abbrev pub invariant-loop-i : goal.invariant-loop-i
invariant-loop-i l = closes_at false l.text ≡ option_map (λ n. l.i + n) (closes_at l.escaped (drop l.i l.text))
