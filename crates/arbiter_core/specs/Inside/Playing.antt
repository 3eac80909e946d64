-- What is recorded of a game and where it stands, by the rules of its setup; cited by private clauses alone.
use Rattle.std.specs.Prelude.{◌≡◌, ℕ, ◌+◌, ◌<◌, ◌≤◌, true, List, [], ◌∷◌, ◌++◌, length, take, Some, None}
use Rattle.std.specs.Option.{some_prefix}
use Rattle.board_core.specs.Delays.{most_delay}
use Rattle.board_core.specs.declared.moves.Move.{Move}
use Rattle.board_core.specs.declared.parts.Parts.{Parts}
use Rattle.judge_core.specs.Answers.{ListsMovesForVerdict}
use Rattle.judge_core.specs.Games.{Rules, position_after_all, verdict_after}
use Rattle.judge_core.specs.Standings.{IsAt, Reached}
use Rattle.move_msg.specs.Numbers.{most_moves}
use Rattle.move_msg.specs.declared.record_bytes.Record.{Record}
use Rattle.move_msg.specs.declared.stamp.Stamp.{Stamp}
use Rattle.arbiter_core.specs.declared.planning.Plan.{Plan}
use Rattle.arbiter_core.specs.declared.played.Played.{Played}
use Rattle.arbiter_core.specs.Recording.{Recorded, ReorderBuffer, advance, reaches}
use Rattle.arbiter_core.specs.Setups.{SetupView, rules_at}
use Rattle.arbiter_core.specs.Views.{IsNear}

abbrev pub recorded_in : Played → Recorded
recorded_in p = record { moves = p.record.moves; verdict = p.record.verdict }

abbrev pub played_of : Record → Reached → Played
played_of r standing = record { «record» = r; standing = standing }

-- after these moves the game is at the position where it stands
abbrev pub IsPlayedFrom : Parts → List Move → Reached → Type 0
IsPlayedFrom start moves standing = position_after_all start moves ≡ Some standing.position

-- what is recorded for this stamp is whole, and the game stands so after its moves
pub record IsPlayedRecord (setup : SetupView) (stamp : Stamp) (p : Played) : Type 0 where
  pub stamp_is : p.record.stamp ≡ stamp
  pub delay_is : p.record.delay ≡ setup.delay
  pub at : IsAt (rules_at setup) p.record.moves p.standing
  pub ruled : p.record.verdict ≡ verdict_after (rules_at setup) p.record.moves
  pub reached : reaches (rules_at setup) p.record.moves (length p.record.moves) ≡ true
  pub short : length p.record.moves ≤ most_moves

-- what always holds of an arbiter's setup, of what it has recorded and of the moves that wait
pub record IsArbiterInOrder (setup : SetupView) (p : Played) (window : ReorderBuffer) : Type 0 where
  pub played : IsPlayedRecord setup p.record.stamp p
  pub near : IsNear window (length p.record.moves + 1)
  pub delay : setup.delay ≤ most_delay

-- this move is the next one: there is no verdict yet, it is legal and leads to this position, and there is room for it
pub record IsNext (rules : Rules) (old : Recorded) (m : Move) (position : Parts) : Type 0 where
  pub unruled : old.verdict ≡ None
  pub legal : position_after_all rules.start (old.moves ++ m ∷ []) ≡ Some position
  pub short : length old.moves < most_moves

-- the plan adds this move and those that wait behind it
pub record IsPlan (rules : Rules) (old : Recorded) (m : Move) (window : ReorderBuffer) (p : Plan) : Type 0 where
  pub advanced : record { moves = old.moves ++ p.moves.items; verdict = p.verdict } ≡ advance rules old.moves m window
  pub at : IsAt rules (old.moves ++ p.moves.items) p.standing
  pub short : length (old.moves ++ p.moves.items) ≤ most_moves
  pub more : length old.moves < length (old.moves ++ p.moves.items)

-- after this move, or one of those that wait behind it, the game stands at a position of which a verdict lists moves
abbrev pub ListsMovesAhead : Rules → List Move → Move → ReorderBuffer → Type 0
ListsMovesAhead rules moves m window =
    let all = moves ++ m ∷ some_prefix window in
    (ply : ℕ) × (p : Parts) × (length moves < ply) × (reaches rules all ply ≡ true) × (position_after_all rules.start (take ply all) ≡ Some p) × ListsMovesForVerdict rules.tables p

-- this is recorded after this move and those that wait behind it
pub record IsPlayedOn (setup : SetupView) (old : Played) (m : Move) (window : ReorderBuffer) (new : Played) : Type 0 where
  pub played : IsPlayedRecord setup old.record.stamp new
  pub advanced : recorded_in new ≡ advance (rules_at setup) old.record.moves m window
  pub more : length old.record.moves < length new.record.moves
