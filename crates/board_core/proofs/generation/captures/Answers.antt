use Rattle.std.proofs.Common.{rules}
use Rattle.board_core.proofs.ComputedLists.{captures_listed, some_capture}
use Rattle.board_core.proofs.generation.captures.Goals as goal

pub returns-clause-computed : goal.returns-clause-computed
returns-clause-computed c = captures_listed _ _ c.in_ok-moves.ensures.listed

pub returns-in_err-moves-clause-memory : goal.returns-in_err-moves-clause-memory
returns-in_err-moves-clause-memory c =
    let l = c.in_err-moves.ensures.memory in
    let some = some_capture _ l.0 l.1 in search rules
