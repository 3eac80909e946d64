use Rattle.std.proofs.Common.{◌≡◌, ◌+◌, ◌*◌, take}
use Rattle.judge_core.specs.Distances.{is_quiet, move_counts}
use Rattle.judge_core.specs.Inside.Determined.{reach_beyond, visits}
use Rattle.judge_core.specs.Inside.Counts.{no_counts, with_count, AreWithin}
use Rattle.judge_core.proofs.Asking.{with_all}
use Rattle.judge_core.proofs.set.Set.+dtz.Given as goal

abbrev pub decreases-dtz_after : goal.decreases-dtz_after
decreases-dtz_after l = 10 * visits l.beyond

abbrev pub decreases-told_after : goal.decreases-told_after
decreases-told_after l = 7

abbrev pub decreases-dtz_from : goal.decreases-dtz_from
decreases-dtz_from l = 10 * visits l.beyond + 6

abbrev pub decreases-dtz_from_search : goal.decreases-dtz_from_search
decreases-dtz_from_search l = 10 * visits l.beyond + 5

abbrev pub decreases-by_moves : goal.decreases-by_moves
decreases-by_moves l = 10 * visits l.beyond + 4

abbrev pub decreases-by_own_table : goal.decreases-by_own_table
decreases-by_own_table l = 10 * visits l.beyond + 3

abbrev pub decreases-by_quiet_moves : goal.decreases-by_quiet_moves
decreases-by_quiet_moves l = 10 * visits l.beyond + 2

abbrev pub decreases-move_counts : goal.decreases-move_counts
decreases-move_counts l = 10 * visits l.beyond + 1

abbrev pub invariant-by_quiet_moves-loop-m : goal.invariant-by_quiet_moves-loop-m
invariant-by_quiet_moves-loop-m l =
    (l.counts ≡ with_all with_count (no_counts l.outcome) (move_counts l.outcome (reach_beyond l.beyond l.fn.self.tables)) (is_quiet l.position) l.position (take l.m-index l.m-items))
    × AreWithin (131172 + visits l.beyond) l.counts
    × (l.self ≡ l.fn.self)
