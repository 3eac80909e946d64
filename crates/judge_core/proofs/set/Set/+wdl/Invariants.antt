use Rattle.std.proofs.Common.{◌≡◌, ◌+◌, ◌*◌}
use Rattle.board_core.specs.ComputedMoves.{count_of_men}
use Rattle.judge_core.specs.Probing.{wdl_of}
use Rattle.judge_core.proofs.Readings.{Walked, moves_left}
use Rattle.judge_core.proofs.set.Set.+wdl.Given as goal

abbrev pub decreases-search_captures : goal.decreases-search_captures
decreases-search_captures l = 5 * count_of_men l.probe.now

abbrev pub decreases-found_in_captures : goal.decreases-found_in_captures
decreases-found_in_captures l = 5 * count_of_men l.probe.now + 1

abbrev pub decreases-capture_search : goal.decreases-capture_search
decreases-capture_search l = 5 * count_of_men l.probe.now + 3

abbrev pub decreases-capture_search_by : goal.decreases-capture_search_by
decreases-capture_search_by l = 5 * count_of_men l.probe.now + 2

abbrev pub decreases-wdl_of : goal.decreases-wdl_of
decreases-wdl_of l = 5 * count_of_men l.position.now + 4

abbrev pub invariant-search_captures-captures : goal.invariant-search_captures-captures
invariant-search_captures-captures l = Walked (wdl_of l.fn.self.tables) l.probe l.found l.last × (l.self ≡ l.fn.self)

abbrev pub decreases-search_captures-captures : goal.decreases-search_captures-captures
decreases-search_captures-captures l = moves_left l.last
