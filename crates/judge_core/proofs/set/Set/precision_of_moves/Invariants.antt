use Rattle.std.proofs.Common.{◌≡◌, take, Ok}
use Rattle.judge_core.specs.Distances.{is_quiet}
use Rattle.judge_core.specs.Inside.Precision.{no_moves, noted, precise_in}
use Rattle.judge_core.proofs.Asking.{with_all}
use Rattle.judge_core.proofs.set.Set.precision_of_moves.Given as goal

abbrev pub invariant-loop-m : goal.invariant-loop-m
invariant-loop-m l =
    (l.found ≡ with_all noted no_moves (λ q. Ok (precise_in l.fn.self.tables l.outcome l.plies q)) (is_quiet l.position) l.position (take l.m-index l.m-items)) × (l.self ≡ l.fn.self)
