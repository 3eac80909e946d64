-- Laws over the definitions. The functions of src/laws.rt carry these.
use Rattle.std.specs.Prelude.{◌≡◌, ◌≤◌, ◌<◌, ◌-◌, ◌⊎◌, ◌↔◌, ℕ, IsTrue, IsFalse, List, [], ◌∷◌, ◌++◌, length, take, None, Some, IsSome, option_and_then}
use Rattle.board_core.specs.declared.parts.Parts.{Parts}
use Rattle.board_core.specs.declared.moves.Move.{Move}
use Rattle.board_core.specs.Position.{IsPosition}
use Rattle.board_core.specs.declared.verdict.Verdict.{Verdict}
use Rattle.board_core.specs.ComputedMoves.{position_after}
use Rattle.judge_core.specs.declared.game.GameOutcome.{GameOutcome}
use Rattle.judge_core.specs.Tables.{Tables, AreFiled}
use Rattle.judge_core.specs.Probing.{wdl_by, wdl_of}
use Rattle.judge_core.specs.Distances.{dtz_by, dtz_of}
use Rattle.judge_core.specs.Ruling.{is_out_of_scope}
use Rattle.judge_core.specs.Games.{Rules, position_after_all, judged_after, verdict_after, is_end, IsFirst, IsOutcome}

-- The value is the one that its rule gives from the values after the captures: the bound on captures in a row cuts nothing off.
abbrev pub WdlMeetsItsRule : Type 0
WdlMeetsItsRule = (tables : Tables) (p : Parts) → IsPosition p → wdl_of tables p ≡ wdl_by tables (wdl_of tables) p

-- So is the distance in scope, whatever the tables hold, where each is in the slot of its kind and its material, as in a
-- set. The bound on positions in a row cuts nothing off.
abbrev pub DtzMeetsItsRules : Type 0
DtzMeetsItsRules =
    (tables : Tables) (p : Parts) → AreFiled tables → IsPosition p → IsFalse (is_out_of_scope p) → dtz_of tables p ≡ dtz_by tables (dtz_of tables) p

-- A game has one outcome at most.
abbrev pub GameHasOneOutcome : Type 0
GameHasOneOutcome =
    (rules : Rules) (moves : List Move) (a b : GameOutcome) → IsOutcome rules moves a → IsOutcome rules moves b → a ≡ b

-- Without delay the verdict at a ply is its ruling.
abbrev pub NoDelayIsTheRuling : Type 0
NoDelayIsTheRuling =
    (rules : Rules) (moves : List Move) → rules.delay ≡ 0 → verdict_after rules moves ≡ judged_after rules.tables rules.start moves

-- the ruling at a ply is this one: a mate or a stalemate, or the ruling of that ply and of as many before it as the delay says
pub record IsRuledAt (rules : Rules) (moves : List Move) (ply : ℕ) (verdict : Verdict) : Type 0 where
  pub ruling : judged_after rules.tables rules.start (take ply moves) ≡ Some verdict
  pub holds :
      IsTrue (is_end verdict)
      ⊎ ((rules.delay ≤ ply)
      × ((k : ℕ) → ply - rules.delay ≤ k → k ≤ ply → judged_after rules.tables rules.start (take k moves) ≡ Some verdict))

-- the least ply that is ruled so, within the moves that are legal in turn
pub record IsLeastRuled (rules : Rules) (moves : List Move) (ply : ℕ) (verdict : Verdict) : Type 0 where
  pub within : ply ≤ length moves
  pub legal : IsSome (position_after_all rules.start (take ply moves))
  pub ruled : IsRuledAt rules moves ply verdict
  pub least : (k : ℕ) (other : Verdict) → k < ply → ¬ IsRuledAt rules moves k other

-- The first verdict is that of the least ply whose ruling is a mate or a stalemate, or has held for as many plies as the delay
-- says.
abbrev pub FirstVerdictInWords : Type 0
FirstVerdictInWords =
    (rules : Rules) (moves : List Move) (ply : ℕ) (verdict : Verdict) → IsFirst rules moves ply verdict ↔ IsLeastRuled rules moves ply verdict

-- The first verdict at a ply depends on the moves before that ply alone.
abbrev pub FirstVerdictLooksBack : Type 0
FirstVerdictLooksBack =
    (rules : Rules) (moves others : List Move) (ply : ℕ) (verdict : Verdict) → take ply moves ≡ take ply others
    → IsFirst rules moves ply verdict → IsFirst rules others ply verdict

-- Moves of which one isn't legal in its turn stay so, whatever follows.
abbrev pub IllegalStaysIllegal : Type 0
IllegalStaysIllegal =
    (start : Parts) (moves more : List Move) → position_after_all start moves ≡ None → position_after_all start (moves ++ more) ≡ None

-- One move more is played from the position that the moves before it lead to.
abbrev pub OneMoveMore : Type 0
OneMoveMore =
    (start : Parts) (moves : List Move) (m : Move)
    → position_after_all start (moves ++ m ∷ []) ≡ option_and_then (λ p. position_after p m) (position_after_all start moves)
