-- What is found of a record step by step; cited by private functions alone.
use Rattle.std.specs.Prelude.{◌≡◌, ◌≢◌, ◌<◌, ℕ, List, length, take, Option, Some, None, IsSome, cond, ◌==◌, ◌+◌, ◌⊎◌}
use Rattle.board_core.specs.declared.moves.Move.{Move}
use Rattle.board_core.specs.declared.verdict.Verdict.{Verdict}
use Rattle.judge_core.specs.declared.game.GameOutcome.{GameOutcome}
use Rattle.judge_core.specs.declared.game.GameOutcome.TheVariants.{Going, Illegal, Ruled}
use Rattle.arbiter_core.specs.Opens.{at_end}
use Rattle.record_audit.specs.declared.auditing.Finding.{Finding}
use Rattle.record_audit.specs.declared.auditing.Finding.TheVariants as found

-- the place of the first move that the game doesn't take
abbrev pub stop_in : GameOutcome → ℕ → Option ℕ
stop_in (Ruled ply verdict) count = cond (ply == count) None (Some ply)
stop_in (Illegal place) count = Some place
stop_in Going count = None

-- by the verdict at the last ply
abbrev pub IsHeldTo : ℕ → Option Verdict → Option Verdict → Finding → Type 0
IsHeldTo count told ruled (found.Whole its verdict) = (its ≡ count) × (verdict ≡ told) × (told ≡ ruled)
IsHeldTo count told ruled (found.BadVerdict verdict) = (verdict ≡ ruled) × (told ≢ ruled)
IsHeldTo count told ruled (found.BadRecord fault) = ⊥
IsHeldTo count told ruled found.OtherStamp = ⊥
IsHeldTo count told ruled (found.BadMoves place) = ⊥

-- by what so many moves come to
abbrev pub IsFoundBy : GameOutcome → ℕ → Option Verdict → Finding → Type 0
IsFoundBy outcome count told (found.Whole its verdict) = (its ≡ count) × (verdict ≡ told) × (at_end outcome count ≡ Some told)
IsFoundBy outcome count told (found.BadVerdict verdict) = (at_end outcome count ≡ Some verdict) × (told ≢ verdict)
IsFoundBy outcome count told (found.BadMoves place) = stop_in outcome count ≡ Some place
IsFoundBy outcome count told (found.BadRecord fault) = ⊥
IsFoundBy outcome count told found.OtherStamp = ⊥

-- the first moves are the same, and the next ones differ
pub record ArePartedAt (one other : List Move) (count : ℕ) : Type 0 where
  pub within : count < length one
  pub also : count < length other
  pub same : take count one ≡ take count other
  pub differ : take (count + 1) one ≢ take (count + 1) other

-- a longer record parts from one of so many moves that ends so at its verdict, or else at the next move
abbrev pub PartsAfter : ℕ → Option Verdict → ℕ → Type 0
PartsAfter count verdict ply = (IsSome verdict × (ply ≡ count)) ⊎ ((verdict ≡ None) × (ply ≡ count + 1))

-- of records of which one begins by the moves of the other
abbrev pub EndsPart : ℕ → Option Verdict → ℕ → Option Verdict → Option ℕ → Type 0
EndsPart count verdict other_count other_verdict None = (count ≡ other_count) × (verdict ≡ other_verdict)
EndsPart count verdict other_count other_verdict (Some ply) =
    ((count < other_count) × PartsAfter count verdict ply)
    ⊎ (((other_count < count) × PartsAfter other_count other_verdict ply)
    ⊎ ((count ≡ other_count) × (verdict ≢ other_verdict) × (ply ≡ count)))
