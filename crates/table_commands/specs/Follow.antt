-- `follow [--tables DIR] [--manifest FILE] [--all-tables] [--delay N] [--san] FEN`: the game of the input, ply by ply as its moves come (this project's own).
use Rattle.std.specs.Prelude.{◌≡◌, ◌++◌, not, ℕ, List, [], ◌∷◌, Option, Some, None, Result, Ok, Err}
use Rattle.std.specs.Borrow.{Bor}
use Rattle.std.specs.declared.alloc.AllocError.{AllocError}
use Rattle.board_core.specs.Position.{IsPosition}
use Rattle.board_core.specs.declared.parts.Parts.{Parts}
use Rattle.command_line.specs.Commands.Follow as words
use Rattle.command_line.specs.LazyFolders.{read_when_asked}
use Rattle.command_line.specs.declared.commands.follow.Follow.{Follow}
use Rattle.fen_text.specs.Fen.{IsFirstFenFault, SpellsPosition}
use Rattle.fen_text.specs.declared.fault.FenFault.{FenFault}
use Rattle.game_teller.specs.Followings.{FollowsInput}
use Rattle.game_teller.specs.Judges.{JudgeFacts, by_set}
use Rattle.game_teller.specs.declared.following.FollowedGame.{FollowedGame}
use Rattle.judge_core.specs.MoreTables.{HasAll}
use Rattle.judge_core.specs.Standings.{IsAt}
use Rattle.judge_core.specs.Tables.{Tables}
use Rattle.line_events.specs.Writing.{DoesBy}
use Rattle.line_teller.specs.ToldLines.{refused_memory}
use Rattle.move_msg.specs.ToldBy.{told_by}
use Rattle.move_msg.specs.declared.told.Manifest.{Manifest}
use Rattle.move_notation.specs.Notations.{notation_by}
use Rattle.system_io.specs.Disks.{DiskFacts}
use Rattle.system_io.specs.Inputs.{InputFacts}
use Rattle.table_folder.specs.Folders.{AreOf, Folder}
use Rattle.table_folder.specs.Settled.{AreSettled, IsAlone, IsPly, IsRefusedAt}
use Rattle.task_files.specs.Given.{Given}
use Rattle.task_files.specs.InputReads.{ReadsGiven}
use Rattle.timeline.specs.Events.{Event}
use Rattle.timeline.specs.Outsides.{Outside}
use Rattle.answer_parts.specs.Lines.{refusal_words, refused_fen}
use Rattle.answer_parts.specs.Looks.{gathered}
use Rattle.answer_parts.specs.Printing.{Prints, printed}
use Rattle.answer_parts.specs.declared.answers.refusals.Refusal.{Refusal}
use Rattle.table_commands.specs.FolderReads.{OpensAt, OpensMissed, no_tables}

-- ---- by a folder whose tables are read when a ply asks for them

-- so a game stands by tables of the folder, of which none is missing at its plies; a ply may need a file that is refused
abbrev pub by_folder : DiskFacts → Folder → Tables → JudgeFacts
by_folder disk folder tables = record {
  opened = tables;
  is_by = λ more. AreOf disk folder more × HasAll tables more;
  stands = λ start moves s. AreSettled folder tables (λ _. IsPly start moves) × ((delay : ℕ) → IsAt (record { start = start; tables = tables; delay = delay }) moves s);
  reads = λ old p new. OpensMissed disk folder (IsAlone p) old new;
  takes_memory = λ p. Unit {0};
  refuses = IsRefusedAt disk folder;
}

-- the game is followed by the tables of an open folder, none of which is open at first; or memory was refused for a set of these
pub data FollowsOpened (disk : DiskFacts) (input : InputFacts) (folder : Folder) (game : FollowedGame) (events : List Event) (status : Option ℕ) : Type 0 where
  ByItsTables : FollowsInput game (by_folder disk folder no_tables) input events status → FollowsOpened disk input folder game events status
  NoRoomForSet : Prints (refused_memory ∷ []) 1 events status → FollowsOpened disk input folder game events status

-- the folder at a path is opened, and then the game followed by its tables; or the manifest is refused, or the folder; or memory was
pub data FollowsInFolder (disk : DiskFacts) (input : InputFacts) (path : List ℕ) (manifest : Manifest) (game : FollowedGame) (events : List Event) (status : Option ℕ) : Type 0 where
  InFolder : (folder : Folder) (listing then : List Event) → OpensAt disk path manifest (Ok (Ok folder)) listing → FollowsOpened disk input folder game then status → events ≡ listing ++ then → FollowsInFolder disk input path manifest game events status
  NotOpened : (refused : Refusal) (listing : List Event) → OpensAt disk path manifest (Ok (Err refused)) listing → events ≡ listing ++ printed (refusal_words refused ∷ []) → status ≡ Some 1 → FollowsInFolder disk input path manifest game events status
  NoRoomToOpen : (e : AllocError) (listing : List Event) → OpensAt disk path manifest (Err e) listing → events ≡ listing ++ printed (refused_memory ∷ []) → status ≡ Some 1 → FollowsInFolder disk input path manifest game events status

-- ---- by tables that were all read before

-- the game is followed by them, or they are refused, or memory was
pub data FollowsByAll (input : InputFacts) (tables : Result Tables (List ℕ)) (game : FollowedGame) (events : List Event) (status : Option ℕ) : Type 0 where
  ByTables : (all : Tables) → tables ≡ Ok all → FollowsInput game (by_set all) input events status → FollowsByAll input tables game events status
  BadTables : (words : List ℕ) → tables ≡ Err words → Prints (words ∷ []) 1 events status → FollowsByAll input tables game events status
  NoRoomForAll : Prints (refused_memory ∷ []) 1 events status → FollowsByAll input tables game events status

-- ---- the command

abbrev pub FollowsBy : DiskFacts → InputFacts → Given → Option (Bor (List ℕ)) → FollowedGame → List Event → Option ℕ → Type 0
FollowsBy disk input given (Some path) game events status = (manifest : Manifest) × (told_by manifest ≡ given.told) × FollowsInFolder disk input path.now manifest game events status
FollowsBy disk input given None game events status = FollowsByAll input (gathered given) game events status

-- as the command asks for it
abbrev pub FollowsTask : Follow → Given → FollowedGame → DiskFacts → InputFacts → List Event → Option ℕ → Type 0
FollowsTask t given game disk input = FollowsBy disk input given (read_when_asked (not t.all_tables) t.tables) game

-- the game from this start
abbrev pub game_from : Follow → Parts → FollowedGame
game_from t start = record { notation = notation_by t.san; start = start; delay = t.delay }

-- by what was read: the refusal of the text of the start; or else the game from there
pub data FollowsGiven (disk : DiskFacts) (input : InputFacts) (t : Follow) (given : Given) (events : List Event) (status : Option ℕ) : Type 0 where
  BadStart : (fault : FenFault) → IsFirstFenFault t.fen.now fault → Prints (refused_fen fault ∷ []) 1 events status → FollowsGiven disk input t given events status
  FromStart : (start : Parts) → SpellsPosition t.fen.now start → IsPosition start → FollowsTask t given (game_from t start) disk input events status → FollowsGiven disk input t given events status

-- what it names is read, and then that is done
abbrev pub FollowsGame : {T P F K S L : Type 0} → Outside T P F K S L → Follow → List Event → Option ℕ → Type 0
FollowsGame o t = DoesBy (ReadsGiven o (words.named t)) (FollowsGiven o.disk o.input t)
