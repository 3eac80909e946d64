-- What a run of a schedule comes to (this project's own, docs/RULES.md).
use Rattle.std.specs.Prelude.{◌≡◌, ◌≤◌, ℕ, ◌+◌, List, length, Option, Some, None, Ok, slice_get}
use Rattle.board_core.specs.declared.parts.Parts.{Parts}
use Rattle.board_core.specs.declared.moves.Move.{Move as Moves}
use Rattle.fen_text.specs.Written.{fen_of}
use Rattle.board_core.specs.Delays.{most_delay}
use Rattle.judge_core.specs.Tables.{Tables}
use Rattle.move_msg.specs.declared.stamp.Stamp.{Stamp}
use Rattle.move_msg.specs.declared.message.Message.{Message}
use Rattle.move_msg.specs.declared.arbiter_id.ArbiterId.{ArbiterId}
use Rattle.move_msg.specs.declared.arbiter_id.ArbiterId.TheVariants.{A, B}
use Rattle.move_msg.specs.Numbers.{most_moves}
use Rattle.move_msg.specs.Records.{SpellsRecord, code_or_none}
use Rattle.move_msg.specs.declared.record_bytes.Record.{Record}
use Rattle.move_msg.specs.Stamps.{IsGameName, stamp_of}
use Rattle.arbiter_core.specs.Recording.{Recorded, move_count}
use Rattle.arbiter_core.specs.Delivers.{IsWritten}
use Rattle.relay_world.specs.declared.event.Event.{Event}
use Rattle.relay_world.specs.declared.world.State.{State}
use Rattle.relay_world.specs.declared.world.State.TheVariants as state
use Rattle.move_msg.specs.Files.{File}
use Rattle.relay_world.specs.Gathering.{tables_of, IsManifestOf}
use Rattle.relay_world.specs.Headline.{IsFaithful}
use Rattle.relay_world.specs.Worlds.{Judged, Side, World, SideLife, Closed, Down, Running, first_world, happens}

-- ---- a game

-- a game as it is given: its name, the position before the first move, the moves that its source sends, and for how many
-- further plies a verdict by tables must hold
pub record GameView : Type 0 where
  pub name : List ℕ
  pub start : Parts
  pub moves : List Moves
  pub delay : ℕ

pub record IsGame (game : GameView) : Type 0 where
  pub name : IsGameName game.name
  pub few : length game.moves ≤ most_moves
  pub delay : game.delay ≤ most_delay

-- the game as it is judged by tables with this manifest
abbrev pub judged_by : GameView → Tables → List ℕ → Judged
judged_by game tables manifest = record {
  rules = record { start = game.start; tables = tables; delay = game.delay };
  stamp = stamp_of game.name (fen_of game.start) manifest game.delay;
  moves = game.moves;
}

-- ---- what a world tells

abbrev pub life_state : SideLife → State
life_state Closed = state.Closed
life_state Down = state.Down
life_state (Running window) = state.Running

-- what is told of an arbiter: its state, and the bytes that are kept
pub record SideView : Type 0 where
  pub state : State
  pub bytes : Option (List ℕ)

pub record WorldView : Type 0 where
  pub a : SideView
  pub b : SideView
  pub log : List Message

abbrev pub told_side : WorldView → ArbiterId → SideView
told_side told A = told.a
told_side told B = told.b

-- the bytes that are told spell a record with so many moves and a verdict of this code
pub record SpellsCounted (told : SideView) (found : ℕ × ℕ) : Type 0 where
  pub bytes : List ℕ
  pub spelled : Record
  pub is : told.bytes ≡ Some bytes
  pub spells : SpellsRecord bytes spelled
  pub counts : found ≡ (length spelled.moves, code_or_none spelled.verdict)

-- the bytes that are kept are those that are written of the record that is kept
abbrev pub KeptIs : Stamp → ℕ → Option (List ℕ) → Option Recorded → Type 0
KeptIs stamp delay bytes None = bytes ≡ None
KeptIs stamp delay bytes (Some kept) = IsWritten stamp delay kept bytes

-- how many moves a record has, and the code of its verdict
abbrev pub count_and_code : Recorded → ℕ × ℕ
count_and_code kept = (move_count kept, code_or_none kept.verdict)

-- the bytes that are told are those of the record that is kept
pub record TellsSide (stamp : Stamp) (delay : ℕ) (told : SideView) (side : Side) : Type 0 where
  pub state : told.state ≡ life_state side.life
  pub bytes : KeptIs stamp delay told.bytes side.kept

pub record TellsWorld (game : Judged) (told : WorldView) (world : World) : Type 0 where
  pub a : TellsSide game.stamp game.rules.delay told.a world.a
  pub b : TellsSide game.stamp game.rules.delay told.b world.b
  pub log : told.log ≡ world.log

-- ---- a run

-- the worlds of a schedule: the first, and the one after each event
pub record AreWorlds (game : Judged) (events : List Event) (worlds : List World) : Type 0 where
  pub many : length worlds ≡ length events + 1
  pub first : slice_get worlds 0 ≡ Some (first_world game)
  pub each : (i : ℕ) (event : Event) (old new : World) → slice_get events i ≡ Some event → slice_get worlds i ≡ Some old → slice_get worlds (i + 1) ≡ Some new → new ≡ happens game old event

-- The files are tables. There are worlds of the schedule, of which the last is told; and in each of them what both arbiters
-- keep is true to the game.
pub record Runs (given : GameView) (files : List File) (events : List Event) (told : WorldView) : Type 0 where
  pub tables : Tables
  pub gathered : tables_of files ≡ Ok tables
  pub manifest : List ℕ
  pub listed : IsManifestOf files manifest
  pub worlds : List World
  pub are : AreWorlds (judged_by given tables manifest) events worlds
  pub last : (world : World) → slice_get worlds (length events) ≡ Some world → TellsWorld (judged_by given tables manifest) told world
  pub faithful : (i : ℕ) (world : World) → slice_get worlds i ≡ Some world → IsFaithful (judged_by given tables manifest) world
