-- Games that are told move by move.
use Rattle.std.specs.Prelude.{◌≡◌, ◌≢◌, ◌⊎◌, ◌<◌, ◌≤◌, ◌++◌, ◌∷◌, [], ℕ, List, length, Option, Some, None, IsSome, Result, Err, IfOk, OnErr, pos}
use Rattle.board_core.specs.declared.moves.Move.{Move}
use Rattle.board_core.specs.declared.parts.Parts.{Parts}
use Rattle.board_core.specs.declared.verdict.Verdict.{Verdict}
use Rattle.board_core.specs.ComputedMoves.{position_after}
use Rattle.board_core.specs.Delays.{most_delay}
use Rattle.board_core.specs.Position.{IsPosition}
use Rattle.fen_text.specs.Coordinates.{SpellsMove}
use Rattle.fen_text.specs.Fen.{SpellsPosition, IsFirstFenFault}
use Rattle.fen_text.specs.declared.fault.FenFault.{FenFault}
use Rattle.judge_core.specs.declared.game.GameOutcome.{GameOutcome}
use Rattle.judge_core.specs.declared.game.GameOutcome.TheVariants.{Ruled, Going}
use Rattle.judge_core.specs.Answers.{ListsMovesForVerdict}
use Rattle.judge_core.specs.Games.{Rules, IsOutcome}
use Rattle.judge_core.specs.Standings.{Reached, IsAt}
use Rattle.judge_core.specs.Tables.{Tables}
use Rattle.probe_api.specs.Moves.{IsMoveOf}
use Rattle.probe_api.specs.Replies.{told, refused, fen_status, verdict_number}
use Rattle.probe_api.specs.declared.plain_move.PlainMove.{PlainMove}
use Rattle.probe_api.specs.declared.reply.Reply.{Reply}

-- a game in play: where it stands, for how many further plies a verdict by tables must hold, and its first verdict
pub record Play : Type 0 where
  pub standing : Reached
  pub delay : ℕ
  pub verdict : Option Verdict

-- what the moves of a game come to that has its first verdict at the last ply, or none
abbrev pub outcome_at : List Move → Option Verdict → GameOutcome
outcome_at moves None = Going
outcome_at moves (Some verdict) = Ruled (length moves) verdict

-- the game of these moves by these rules stands so, and that is what its moves come to
pub record IsPlayed (rules : Rules) (moves : List Move) (g : Play) : Type 0 where
  pub delay : rules.delay ≡ g.delay
  pub at : IsAt rules moves g.standing
  pub outcome : IsOutcome rules moves (outcome_at moves g.verdict)

-- a game is begun at a position
abbrev pub IsBegun : Tables → Parts → ℕ → Play → Type 0
IsBegun tables start delay g = IsPlayed (record { start = start; tables = tables; delay = delay }) [] g

-- what beginning a game at the position of a text comes to: a game, or a status. The delay is looked at first, then the text
pub record Begins (tables : Tables) (text : List ℕ) (delay : ℕ) (begun : Result Play ℕ) : Type 0 where
  pub game : (p : Parts) → delay ≤ most_delay → IsPosition p → SpellsPosition text p → IfOk begun (IsBegun tables p delay)
  pub memory : (p : Parts) → delay ≤ most_delay → IsPosition p → SpellsPosition text p → OnErr begun ((begun ≡ Err 5) × ListsMovesForVerdict tables p)
  pub late : most_delay < delay → begun ≡ Err 87
  pub fault : (fault : FenFault) → delay ≤ most_delay → IsFirstFenFault text fault → begun ≡ Err (fen_status fault)
  pub one : delay ≤ most_delay → ((p : Parts) × IsPosition p × SpellsPosition text p) ⊎ ((fault : FenFault) × IsFirstFenFault text fault)

-- a game goes on by its move, whatever it was
abbrev pub GoesOnByMove : Tables → Move → Play → Play → Type 0
GoesOnByMove tables m old new =
    (rules : Rules) (moves : List Move) → rules.tables ≡ tables → IsPlayed rules moves old → IsPlayed rules (moves ++ m ∷ []) new

-- what telling a game its next move comes to. A game that has a verdict takes none, then one that isn't legal is refused, and then
-- memory may be refused; each leaves the game as it was
pub record TellsMove (tables : Tables) (m : Move) (old : Play) (reply : Reply) (new : Play) : Type 0 where
  pub played : reply.status ≡ 0 → GoesOnByMove tables m old new
  pub verdict : reply.status ≡ 0 → reply ≡ told (pos (verdict_number new.verdict))
  pub over : IsSome old.verdict → reply ≡ refused 84
  pub illegal : old.verdict ≡ None → position_after old.standing.position m ≡ None → reply ≡ refused 86
  pub legal : (q : Parts) → old.verdict ≡ None → position_after old.standing.position m ≡ Some q → reply.status ≢ 0 → (reply ≡ refused 5) × ListsMovesForVerdict tables q
  pub kept : reply.status ≢ 0 → new ≡ old

-- a move as text, in coordinates: that of the move that it spells, or a status where it spells none
pub record TellsMoveText (tables : Tables) (text : List ℕ) (old : Play) (reply : Reply) (new : Play) : Type 0 where
  pub move : (m : Move) → SpellsMove text m → TellsMove tables m old reply new
  pub none : ((m : Move) → SpellsMove text m → ⊥) → (reply ≡ refused 85) × (new ≡ old)
  pub one : ((m : Move) × SpellsMove text m) ⊎ ((m : Move) → SpellsMove text m → ⊥)
  pub kept : reply.status ≢ 0 → new ≡ old

-- and as three numbers
pub record TellsMoveNumbers (tables : Tables) (numbers : PlainMove) (old : Play) (reply : Reply) (new : Play) : Type 0 where
  pub move : (m : Move) → IsMoveOf numbers m → TellsMove tables m old reply new
  pub none : ((m : Move) → IsMoveOf numbers m → ⊥) → (reply ≡ refused 85) × (new ≡ old)
  pub one : ((m : Move) × IsMoveOf numbers m) ⊎ ((m : Move) → IsMoveOf numbers m → ⊥)
  pub kept : reply.status ≢ 0 → new ≡ old
