use Rattle.std.proofs.Common.{◌≡◌, ◌+◌, ◌*◌}
use Rattle.board_core.specs.ComputedMoves.{count_of_men}
use Rattle.judge_core.specs.Inside.Determined.{extreme_value}
use Rattle.judge_core.proofs.Readings.{Walked, moves_left}
use Rattle.judge_core.proofs.set.Set.+extreme.Given as goal

abbrev pub decreases-captures_in_extreme : goal.decreases-captures_in_extreme
decreases-captures_in_extreme l = 3 * count_of_men l.probe.now

abbrev pub decreases-extreme_search : goal.decreases-extreme_search
decreases-extreme_search l = 3 * count_of_men l.probe.now + 1

abbrev pub decreases-wdl_extreme : goal.decreases-wdl_extreme
decreases-wdl_extreme l = 3 * count_of_men l.position.now + 2

abbrev pub invariant-captures_in_extreme-captures : goal.invariant-captures_in_extreme-captures
invariant-captures_in_extreme-captures l = Walked (extreme_value l.fn.self.tables l.odd_wins) l.probe l.found l.last × (l.self ≡ l.fn.self)

abbrev pub decreases-captures_in_extreme-captures : goal.decreases-captures_in_extreme-captures
decreases-captures_in_extreme-captures l = moves_left l.last
