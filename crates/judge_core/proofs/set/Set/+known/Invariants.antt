use Rattle.std.proofs.Common.{◌≡◌, ◌+◌, ◌*◌}
use Rattle.board_core.specs.ComputedMoves.{count_of_men}
use Rattle.judge_core.specs.Known.{known_of}
use Rattle.judge_core.proofs.KnownValue.{IsUnwon}
use Rattle.judge_core.proofs.Readings.{moves_left}
use Rattle.judge_core.proofs.set.Set.+known.Given as goal

abbrev pub decreases-try_captures : goal.decreases-try_captures
decreases-try_captures l = 3 * count_of_men l.position.now

abbrev pub decreases-found_or_won : goal.decreases-found_or_won
decreases-found_or_won l = 3 * count_of_men l.position.now + 1

abbrev pub decreases-known_of : goal.decreases-known_of
decreases-known_of l = 3 * count_of_men l.position.now + 2

abbrev pub invariant-try_captures-captures : goal.invariant-try_captures-captures
invariant-try_captures-captures l = IsUnwon (known_of l.fn.self.tables) l.position l.found l.last × (l.self ≡ l.fn.self)

abbrev pub decreases-try_captures-captures : goal.decreases-try_captures-captures
decreases-try_captures-captures l = moves_left l.last
