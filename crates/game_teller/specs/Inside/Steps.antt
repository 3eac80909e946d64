-- What comes of one line of a game that is followed; cited by private functions alone.
use Rattle.std.specs.Prelude.{◌≡◌, ◌++◌, ◌+◌, ℕ, Bool, List, [], ◌∷◌, Option, Some, None, Result, Ok, Err}
use Rattle.std.specs.Io.KnownBytes.{IsAtEnd}
use Rattle.std.specs.declared.alloc.AllocError.{AllocError}
use Rattle.board_core.specs.declared.parts.Parts.{Parts}
use Rattle.board_core.specs.declared.moves.Move.{Move as Moves}
use Rattle.board_core.specs.ComputedMoves.{position_after}
use Rattle.board_core.specs.declared.verdict.Verdict.{Verdict}
use Rattle.judge_core.specs.Games.{Rules, verdict_after}
use Rattle.judge_core.specs.Standings.{IsAt, Reached}
use Rattle.answer_parts.specs.Printing.{Performs, printed}
use Rattle.line_teller.specs.ToldLines.{stops_by}
use Rattle.move_notation.specs.declared.notation.Notation.{Notation}
use Rattle.move_notation.specs.Notations.{Spells}
use Rattle.system_io.specs.declared.output.WriteFault.{WriteFault}
use Rattle.system_io.specs.declared.reading.ReadFault.{ReadFault}
use Rattle.system_io.specs.LineReaders.{ReadsLine}
use Rattle.table_folder.specs.declared.fault.FileRefusal.{FileRefusal}
use Rattle.timeline.specs.Events.{Event, LineRead}
use Rattle.timeline.specs.Outsides.{AddsSome, Outside}
use Rattle.game_teller.specs.declared.lines.Stop.{Stop}
use Rattle.game_teller.specs.declared.lines.Stop.TheVariants as stop
use Rattle.game_teller.specs.declared.following.FollowedGame.{FollowedGame}
use Rattle.game_teller.specs.declared.following.FollowState.{FollowState}
use Rattle.game_teller.specs.declared.following.Step.{Step}
use Rattle.game_teller.specs.declared.following.Step.TheVariants as step
use Rattle.game_teller.specs.Followings.{Follows, IsNotBegun, goes_out, stop_by}
use Rattle.game_teller.specs.Judges.{JudgeFacts, JudgesOn, StandsBy}
use Rattle.game_teller.specs.Plies.{ply_words, stop_words}

-- a line of the output was written, and has gone out
abbrev pub GoesOut : List ℕ → List Event → Option (Unit {0}) → Type 0
GoesOut words events is = events ≡ goes_out words

-- a verdict stands there by this delay
abbrev pub HasVerdict : ℕ → Reached → Option Verdict → Type 0
HasVerdict delay s verdict = (rules : Rules) (moves : List Moves) → rules.delay ≡ delay → IsAt rules moves s → verdict ≡ verdict_after rules moves

-- where the game stands is printed, with its verdict
pub record PrintsPly (at : FollowState) (events : List Event) (is : Option (Option Verdict)) : Type 0 where
  pub verdict : Option Verdict
  pub stands : HasVerdict at.delay at.standing verdict
  pub made : events ≡ goes_out (ply_words at.ply verdict at.standing.position)
  pub is_it : is ≡ Some verdict

-- ---- a line that was read

-- why it gives no position: it is no move, or no legal one
abbrev pub IsNoNext : Notation → Parts → ℕ → List ℕ → Stop → Type 0
IsNoNext notation p number line (stop.NotAMove place) = (place ≡ number) × ((m : Moves) → Spells notation p line m → ⊥)
IsNoNext notation p number line (stop.Illegal place) = (place ≡ number) × ((m : Moves) × Spells notation p line m × (position_after p m ≡ None))
IsNoNext notation p number line (stop.BadFile refusal) = ⊥
IsNoNext notation p number line stop.Unread = ⊥
IsNoNext notation p number line stop.OutOfMemory = ⊥

-- it spells a legal move, which leads to this position
abbrev pub SpellsNext : FollowState → List ℕ → Parts → Type 0
SpellsNext old line q = (m : Moves) × Spells old.notation old.standing.position line m × (position_after old.standing.position m ≡ Some q)

-- it does, what the position asks for is read, and the game stands so then, one ply later
pub record HasTurned (was now : JudgeFacts) (old : FollowState) (line : List ℕ) (new : FollowState) (reading : List Event) : Type 0 where
  pub position : Parts
  pub spelled : SpellsNext old line position
  pub reads : was.reads was.opened position now.opened (Ok None) reading
  pub on : JudgesOn was now old.standing position new.standing
  pub ply : new.ply ≡ old.ply + 1
  pub notation : new.notation ≡ old.notation
  pub delay : new.delay ≡ old.delay

-- it gives no position; or the file of a table that the position needs is refused; or memory for its verdict is
pub data IsNoTurn (was now : JudgeFacts) (old : FollowState) (line : List ℕ) (why : Stop) (reading : List Event) : Type 0 where
  GivesNone : IsNoNext old.notation old.standing.position old.ply line why → reading ≡ [] → IsNoTurn was now old line why reading
  IsRefused : (q : Parts) (refusal : FileRefusal) → SpellsNext old line q → was.reads was.opened q now.opened (Ok (Some refusal)) reading → was.refuses q refusal → why ≡ stop.BadFile refusal → IsNoTurn was now old line why reading
  NoRoom : (q : Parts) (refused : AllocError) → SpellsNext old line q → was.reads was.opened q now.opened (Err refused) reading → was.takes_memory q → why ≡ stop.OutOfMemory → IsNoTurn was now old line why reading

abbrev pub TurnsByLine : {T : Type 0} → JudgeFacts → JudgeFacts → FollowState → List ℕ → FollowState → Result T Stop → List Event → Type 0
TurnsByLine was now old line new (Ok x) reading = HasTurned was now old line new reading
TurnsByLine was now old line new (Err why) reading = IsNoTurn was now old line why reading

-- the ply after its move is printed, or why there is none
pub data TurnsRead (was now : JudgeFacts) (old : FollowState) (line : List ℕ) (new : FollowState) (events : List Event) (is : Option Step) : Type 0 where
  IsPrinted : (reading printing : List Event) (verdict : Option Verdict) → HasTurned was now old line new reading → PrintsPly new printing (Some verdict) → events ≡ reading ++ printing → is ≡ Some (step.Printed verdict) → TurnsRead was now old line new events is
  IsStopped : (reading : List Event) (why : Stop) → IsNoTurn was now old line why reading → events ≡ reading ++ printed (stop_words why ∷ []) → is ≡ Some step.Stopped → TurnsRead was now old line new events is

-- ---- the next line

-- it is read, and that is done for it; or there is none; or why it can't be read is printed
pub data TakesTurn (was now : JudgeFacts) (old new : FollowState) (Stops : ReadFault → Type 0) (left rest : Option (List ℕ)) (events : List Event) (is : Option Step) : Type 0 where
  Turned : (line : List ℕ) (had_come : Bool) (then : List Event) → ReadsLine left rest line → TurnsRead was now old line new then is → events ≡ LineRead (Ok (Some line)) had_come ∷ then → TakesTurn was now old new Stops left rest events is
  AtEnd : (had_come : Bool) → IsAtEnd left → events ≡ LineRead (Ok None) had_come ∷ [] → is ≡ Some step.Ended → TakesTurn was now old new Stops left rest events is
  Unread : (fault : ReadFault) (had_come : Bool) → Stops fault → events ≡ LineRead (Err fault) had_come ∷ printed (stop_words (stop_by fault) ∷ []) → is ≡ Some step.Stopped → TakesTurn was now old new Stops left rest events is

-- ---- the start

-- the start is judged, for which this is read, and the game stands so
pub record HasBegun (was now : JudgeFacts) (game : FollowedGame) (at : FollowState) (reading : List Event) : Type 0 where
  pub reads : was.reads was.opened game.start now.opened (Ok None) reading
  pub stands : StandsBy now game.start [] at.standing
  pub ply : at.ply ≡ 0
  pub notation : at.notation ≡ game.notation
  pub delay : at.delay ≡ game.delay

abbrev pub Begins : JudgeFacts → JudgeFacts → FollowedGame → Result FollowState Stop → List Event → Type 0
Begins was now game (Ok at) reading = HasBegun was now game at reading
Begins was now game (Err why) reading = IsNotBegun game was why reading

-- ---- from one moment to another

module _ {T P F K S L : Type 0} (o : Outside T P F K S L) (was now : JudgeFacts) (old new : FollowState) where
  -- the move of a line is played, and the ply after it judged
  abbrev pub PlaysIn : {A : Type 0} → List ℕ → T → T → Result A Stop → Type 0
  PlaysIn line t t' result = AddsSome o t t' (TurnsByLine was now old line new result)

  -- and the ply is printed, or why there is none
  abbrev pub PrintsIn : List ℕ → T → T → Result Step WriteFault → Type 0
  PrintsIn line t t' result = AddsSome o t t' (Performs (TurnsRead was now old line new) result)

  -- the next line is read, and that is done
  abbrev pub TurnsIn : L → L → T → T → Result Step WriteFault → Type 0
  TurnsIn lines lines' t t' result =
      AddsSome o t t' (Performs (TakesTurn was now old new (stops_by (o.lines lines)) (o.lines lines).left (o.lines lines').left) result)

-- a game is followed
abbrev pub FollowsIn : {T P F K S L : Type 0} → Outside T P F K S L → JudgeFacts → FollowedGame → L → T → T → Result ℕ WriteFault → Type 0
FollowsIn o judge game lines t t' result =
    AddsSome o t t' (Performs (Follows game judge (stops_by (o.lines lines)) (o.lines lines).left) result)
