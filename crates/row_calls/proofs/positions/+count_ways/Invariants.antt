use Rattle.row_calls.proofs.positions.+count_ways.Given as goal

abbrev pub decreases-count_ways : goal.decreases-count_ways
decreases-count_ways l = l.moves
