use Rattle.board_core.proofs.CensusLaws.{IsCensusBelow}
use Rattle.board_core.proofs.census.Census.of.Given as goal

abbrev pub invariant-loop-n : goal.invariant-loop-n
invariant-loop-n l = IsCensusBelow l.men l.n l.census
