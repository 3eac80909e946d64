-- Laws of values, distances and root moves that are determined. Functions of src/laws.rt carry these.
use Rattle.std.specs.Prelude.{◌≡◌, ◌≤◌, ◌≤ℤ◌, ℤ, pos, List, ◌∷◌, Some, Ok}
use Rattle.std.specs.List.{Contains}
use Rattle.board_core.specs.declared.parts.Parts.{Parts}
use Rattle.judge_core.specs.declared.distance.Distance.{Distance}
use Rattle.judge_core.specs.declared.root_move.RootMove.{RootMove}
use Rattle.judge_core.specs.declared.wdl.Wdl.{Wdl}
use Rattle.judge_core.specs.declared.wdl.Wdl.TheVariants.{Win}
use Rattle.board_core.specs.ComputedMoves.{position_after}
use Rattle.board_core.specs.Position.{IsPosition}
use Rattle.judge_core.specs.Values.{Reading, points}
use Rattle.judge_core.specs.Distances.{Reach}
use Rattle.judge_core.specs.Root.{root_move_by}
use Rattle.judge_core.specs.Tables.{Tables}
use Rattle.judge_core.specs.Determined.{IsCompletedBy, IsDetermined, IsDeterminedDistance, IsDeterminedReading, IsDeterminedReach, IsDeterminedRoot}
use Rattle.judge_core.specs.RootLaws.{IsWithinRule}

-- Every set can be completed by more tables, so what every completion gives is never said of none.
abbrev pub CompletionsExist : Type 0
CompletionsExist = (tables : Tables) → (more : Tables) × IsCompletedBy tables more

-- A position has one determined value at most.
abbrev pub DeterminedValueIsOne : Type 0
DeterminedValueIsOne = (tables : Tables) (p : Parts) (u v : Wdl) → IsDetermined tables p u → IsDetermined tables p v → u ≡ v

-- It has one determined distance at most.
abbrev pub DeterminedDistanceIsOne : Type 0
DeterminedDistanceIsOne =
    (tables : Tables) (p : Parts) (c d : Distance) → IsDeterminedDistance tables p c → IsDeterminedDistance tables p d → c ≡ d

-- The first of the determined root moves has a value wherever some move has one, and no move has a better one.
abbrev pub FirstDeterminedMoveIsBest : Type 0
FirstDeterminedMoveIsBest =
    (tables : Tables) (p : Parts) (first : RootMove) (rest : List RootMove) (m : RootMove) (v : Wdl)
    → IsDeterminedRoot tables p (first ∷ rest) → Contains (first ∷ rest) m → m.wdl ≡ Ok v
    → (u : Wdl) × (first.wdl ≡ Ok u) × (points v ≤ points u)

-- Where some determined move wins within the rule of fifty moves, the first one wins, and its distance is no greater number.
abbrev pub FirstDeterminedMoveWinsWithinRule : Type 0
FirstDeterminedMoveWinsWithinRule =
    (tables : Tables) (p : Parts) (first : RootMove) (rest : List RootMove) (m : RootMove)
    → IsDeterminedRoot tables p (first ∷ rest) → Contains (first ∷ rest) m → (within : IsWithinRule p m)
    → (distance : ℤ) × (first.wdl ≡ Ok Win) × (first.dtz ≡ Ok distance) × (distance ≤ℤ pos within.distance)

-- A position has one determined reading and one distance that is told: a value or a fault, a distance or a fault.
abbrev pub DeterminedAnswersAreOne : Type 0
DeterminedAnswersAreOne =
    (tables : Tables) (p : Parts)
    → ((r s : Reading) → IsDeterminedReading tables p r → IsDeterminedReading tables p s → r ≡ s)
    × ((r s : Reach) → IsDeterminedReach tables p r → IsDeterminedReach tables p s → r ≡ s)

-- Each determined root move is by what the probes tell of the position after it, its value and its distance.
abbrev pub DeterminedMoveIsAsProbed : Type 0
DeterminedMoveIsAsProbed =
    (tables : Tables) (p q : Parts) (moves : List RootMove) (m : RootMove) (value : Reading) (reach : Reach)
    → IsPosition p → IsDeterminedRoot tables p moves → Contains moves m → position_after p m.played ≡ Some q
    → IsDeterminedReading tables q value → IsDeterminedReach tables q reach → m ≡ root_move_by (λ _. value) (λ _. reach) p m.played q
