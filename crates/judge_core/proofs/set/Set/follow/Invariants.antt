use Rattle.std.proofs.Common.{◌≡◌, take}
use Rattle.judge_core.specs.Games.{IsUnruled}
use Rattle.judge_core.specs.Standings.{IsAt}
use Rattle.judge_core.proofs.set.Set.follow.Given as goal

abbrev pub invariant-loop-ply : goal.invariant-loop-ply
invariant-loop-ply l =
    IsAt (record { start = l.start; tables = l.fn.self.tables; delay = l.delay }) (take l.ply l.moves) l.standing
    × IsUnruled (record { start = l.start; tables = l.fn.self.tables; delay = l.delay }) l.moves l.ply
    × (l.self ≡ l.fn.self)
