-- `enter`: games of a folder, and all that happens outside for them, one event after another (this project's own).
use Rattle.std.specs.Prelude.{◌≡◌, ◌≢◌, ◌⊎◌, ◌+◌, ◌++◌, ◌&&◌, ℕ, Bool, true, false, List, [], ◌∷◌, Option, Some, None, Result, Ok, Err, codes, option_map}
use Rattle.answer_parts.specs.Lines.{refused_entry, refused_exists, refused_fen}
use Rattle.answer_parts.specs.Reply.{status_if}
use Rattle.answer_parts.specs.declared.answers.refusals.EntryFault.{EntryFault}
use Rattle.answer_parts.specs.declared.answers.refusals.EntryFault.TheVariants as entry
use Rattle.arbiter_server.specs.GameFiles.{GameContents, SpellsGame, game_as_told}
use Rattle.arbiter_server.specs.GameFolders.{game_path, game_stamp, kept_path}
use Rattle.arbiter_server.specs.ServedLines.{refused_keeper}
use Rattle.board_core.specs.Position.{IsPosition}
use Rattle.board_core.specs.declared.parts.Parts.{Parts}
use Rattle.command_line.specs.declared.commands.enter.Enter.{Enter}
use Rattle.command_line.specs.declared.commands.enter.Entries.{Entries}
use Rattle.command_line.specs.declared.commands.enter.Entries.TheVariants.{From, One}
use Rattle.command_line.specs.declared.commands.enter.OneGame.{OneGame}
use Rattle.answer_commands.specs.Earlier.{NotesEarlier}
use Rattle.answer_commands.specs.Entries.{IsFirstEntryFault, SpellsEntry}
use Rattle.answer_commands.specs.Keeping.{KeepsText}
use Rattle.answer_parts.specs.Printing.{Prints, printed}
use Rattle.answer_commands.specs.Stamping.{ReadsStamping}
use Rattle.answer_commands.specs.StoreReads.{Known, Unasked}
use Rattle.answer_commands.specs.declared.keeping.GameText.TheVariants.{Stood, Written}
use Rattle.answer_commands.specs.declared.keeping.KeepFault.{KeepFault}
use Rattle.answer_commands.specs.declared.keeping.KeepFault.TheVariants as keep
use Rattle.fen_text.specs.Fen.{IsFirstFenFault, SpellsPosition}
use Rattle.fen_text.specs.declared.fault.FenFault.{FenFault}
use Rattle.hex.specs.Hex.{encode_lower}
use Rattle.line_teller.specs.ToldLines.{LineTold, cut_words, refused_memory}
use Rattle.move_msg.specs.TextLines.{lines_in}
use Rattle.move_msg.specs.declared.stamp.Stamp.{Stamp}
use Rattle.system_io.specs.Disks.{DiskFacts}
use Rattle.system_io.specs.declared.reading.ReadFault.{ReadFault}
use Rattle.task_files.specs.InputReads.{ReadsAllInput, ReadsText}
use Rattle.timeline.specs.Events.{Event}
use Rattle.timeline.specs.Outsides.{Outside}

-- what a command does: all its events with its status, or the first of them with none
abbrev pub Doing : Type 1
Doing = List Event → Option ℕ → Type 0

-- where games are entered: the folder, the manifest by which they are stamped, and whether each has to be new
pub record Place : Type 0 where
  pub games : List ℕ
  pub manifest : List ℕ
  pub is_new : Bool

abbrev pub placed : Enter → List ℕ → Place
placed t manifest = record { games = t.games.now; manifest = manifest; is_new = t.is_new }

-- ---- a game

-- The text of a game under its stamp. It is kept in the game's file; and where it stood there before, that is noted. Or it isn't kept; or
-- memory was refused for the paths of the game, and nothing happens.
pub data KeepsGame {T P F K S L : Type 0} (o : Outside T P F K S L) (p : Place) (stamp text : List ℕ) (before after : Known) (result : Result (Unit {0}) KeepFault) (events : List Event) : Type 0 where
  NewThere : KeepsText o p.is_new (game_path p.games stamp) text (Ok Written) events → after ≡ before → result ≡ Ok tt → KeepsGame o p stamp text before after result events
  WasThere : (keeping noting : List Event) → KeepsText o p.is_new (game_path p.games stamp) text (Ok Stood) keeping → NotesEarlier o p.games (kept_path p.games stamp) stamp before after noting → events ≡ keeping ++ noting → result ≡ Ok tt → KeepsGame o p stamp text before after result events
  Unkept : (fault : KeepFault) → KeepsText o p.is_new (game_path p.games stamp) text (Err fault) events → after ≡ before → result ≡ Err fault → KeepsGame o p stamp text before after result events
  NoRoomForPaths : events ≡ [] → after ≡ before → result ≡ Err keep.OutOfMemory → KeepsGame o p stamp text before after result events

-- a game is entered, or isn't: its text under its stamp by the manifest
pub record EntersGame {T P F K S L : Type 0} (o : Outside T P F K S L) (p : Place) (g : GameContents) (before after : Known) (result : Result (Unit {0}) KeepFault) (events : List Event) : Type 0 where
  pub text : List ℕ
  pub spells : SpellsGame text g
  pub keeps : KeepsGame o p (game_stamp g p.manifest) text before after result events

abbrev pub keep_fault_words : KeepFault → List ℕ
keep_fault_words keep.Keeper = refused_keeper
keep_fault_words keep.Exists = refused_exists
keep_fault_words keep.OutOfMemory = refused_memory

-- ---- the game of the words

-- the game that the words tell, with this start
abbrev pub entered : OneGame → Parts → GameContents
entered g start = game_as_told g.name start g.delay

-- it is entered, and then its stamp is written; or it isn't, and then that is written
pub data PutsGame {T P F K S L : Type 0} (o : Outside T P F K S L) (p : Place) (g : GameContents) (events : List Event) (status : Option ℕ) : Type 0 where
  StampPut : (after : Known) (entering : List Event) → EntersGame o p g Unasked after (Ok tt) entering → events ≡ entering ++ printed (encode_lower (game_stamp g p.manifest) ∷ []) → status ≡ Some 0 → PutsGame o p g events status
  FaultPut : (after : Known) (fault : KeepFault) (entering : List Event) → EntersGame o p g Unasked after (Err fault) entering → events ≡ entering ++ printed (keep_fault_words fault ∷ []) → status ≡ Some 1 → PutsGame o p g events status

-- the manifest is read, and then this is done by it; or there is none, which is written
pub data ByManifest (disk : DiskFacts) (t : Enter) (Next : List ℕ → Doing) (events : List Event) (status : Option ℕ) : Type 0 where
  Stamped : (manifest : List ℕ) (reading rest : List Event) → ReadsStamping disk (option_map (λ s. s.now) t.manifest) t.tables.now (Ok manifest) reading → Next manifest rest status → events ≡ reading ++ rest → ByManifest disk t Next events status
  Unstamped : (words : List ℕ) (reading : List Event) → ReadsStamping disk (option_map (λ s. s.now) t.manifest) t.tables.now (Err words) reading → events ≡ reading ++ printed (words ∷ []) → status ≡ Some 1 → ByManifest disk t Next events status

-- from this start it is entered by the manifest
abbrev pub EntersBy : {T P F K S L : Type 0} → Outside T P F K S L → Enter → OneGame → Parts → Doing
EntersBy o t g start = ByManifest o.disk t (λ manifest. PutsGame o (placed t manifest) (entered g start))

-- the text of the start is no position, and nothing is read; or else the game is entered by the manifest
pub data EntersOne {T P F K S L : Type 0} (o : Outside T P F K S L) (t : Enter) (g : OneGame) (events : List Event) (status : Option ℕ) : Type 0 where
  BadStart : (fault : FenFault) → IsFirstFenFault g.start.now fault → Prints (refused_fen fault ∷ []) 1 events status → EntersOne o t g events status
  FromStart : (start : Parts) → SpellsPosition g.start.now start → IsPosition start → EntersBy o t g start events status → EntersOne o t g events status

-- ---- the games of a list

-- what is at fault with a game's file, as it is told of a line; want of memory isn't
abbrev pub IsFileFault : EntryFault → KeepFault → Type 0
IsFileFault fault keep.Keeper = fault ≡ entry.Keeper
IsFileFault fault keep.Exists = fault ≡ entry.Exists
IsFileFault fault keep.OutOfMemory = ⊥

-- what comes of a line: its game is entered under this stamp; or its game's file is at fault; or the line is, and nothing happens
pub data ComesOf {T P F K S L : Type 0} (o : Outside T P F K S L) (p : Place) (line : List ℕ) (before after : Known) (result : Result Stamp EntryFault) (events : List Event) : Type 0 where
  IsEntered : (g : GameContents) → SpellsEntry line g → EntersGame o p g before after (Ok tt) events → result ≡ Ok (game_stamp g p.manifest) → ComesOf o p line before after result events
  FileAtFault : (g : GameContents) (f : KeepFault) (fault : EntryFault) → SpellsEntry line g → EntersGame o p g before after (Err f) events → IsFileFault fault f → result ≡ Err fault → ComesOf o p line before after result events
  LineAtFault : (fault : EntryFault) → IsFirstEntryFault line fault → after ≡ before → result ≡ Err fault → events ≡ [] → ComesOf o p line before after result events

-- memory is refused for the game that a line spells
pub record LacksRoom {T P F K S L : Type 0} (o : Outside T P F K S L) (p : Place) (line : List ℕ) (before after : Known) (events : List Event) : Type 0 where
  pub game : GameContents
  pub spells : SpellsEntry line game
  pub enters : EntersGame o p game before after (Err keep.OutOfMemory) events

-- what is told of the line with this number, and whether its game is entered
abbrev pub told_entry : ℕ → Result Stamp EntryFault → LineTold
told_entry number (Ok stamp) = record { words = encode_lower stamp; done = true }
told_entry number (Err fault) = record { words = refused_entry number fault; done = false }

abbrev pub told_no_room : LineTold
told_no_room = record { words = refused_memory; done = false }

-- what is told of a line after these events, and whether it is the last that is told
pub data TellsOf {T P F K S L : Type 0} (o : Outside T P F K S L) (p : Place) (number : ℕ) (line : List ℕ) (before after : Known) (t : LineTold) (is_last : Bool) (events : List Event) : Type 0 where
  OfLine : (r : Result Stamp EntryFault) → ComesOf o p line before after r events → t ≡ told_entry number r → is_last ≡ false → TellsOf o p number line before after t is_last events
  OfNoRoom : LacksRoom o p line before after events → t ≡ told_no_room → is_last ≡ true → TellsOf o p number line before after t is_last events

-- The line with this number is entered and told, and then the rest is done; or memory is refused for it, which is told, and nothing more is
-- done; or these are the first events alone, and it comes later.
pub data EntersLine {T P F K S L : Type 0} (o : Outside T P F K S L) (p : Place) (number : ℕ) (line : List ℕ) (known : Known) (Rest : Known → Option Bool → List Event → Type 0) (done : Option Bool) (events : List Event) : Type 0 where
  GoesOn : (t : LineTold) (after : Known) (others : Option Bool) (entering rest : List Event) → TellsOf o p number line known after t false entering → Rest after others rest → done ≡ option_map (λ d. t.done && d) others → events ≡ entering ++ (printed (t.words ∷ []) ++ rest) → EntersLine o p number line known Rest done events
  Stops : (t : LineTold) (after : Known) (entering : List Event) → TellsOf o p number line known after t true entering → done ≡ Some false → events ≡ entering ++ printed (t.words ∷ []) → EntersLine o p number line known Rest done events
  Pauses : done ≡ None → events ≡ [] → EntersLine o p number line known Rest done events

-- each line in turn, of which the first has this number; and whether all their games are entered, where these are all events
abbrev pub EntersLines : {T P F K S L : Type 0} → Outside T P F K S L → Place → ℕ → List (List ℕ) → Known → Option Bool → List Event → Type 0
EntersLines o p number [] known done events = ((done ≡ Some true) ⊎ (done ≡ None)) × (events ≡ [])
EntersLines o p number (line ∷ lines) known done events = EntersLine o p number line known (EntersLines o p (number + 1) lines) done events

-- the status is 0 only where all games are entered
abbrev pub EntersAll : {T P F K S L : Type 0} → Outside T P F K S L → Place → List (List ℕ) → List Event → Option ℕ → Type 0
EntersAll o p lines events status = (done : Option Bool) × EntersLines o p 1 lines Unasked done events × (status ≡ option_map status_if done)

abbrev pub EntersList : {T P F K S L : Type 0} → Outside T P F K S L → Enter → List ℕ → List Event → Option ℕ → Type 0
EntersList o t text events status = ByManifest o.disk t (λ manifest. EntersAll o (placed t manifest) (lines_in text)) events status

-- the list is what the input gives where the path is `-`, and else what the file has
pub data ReadsList {T P F K S L : Type 0} (o : Outside T P F K S L) (path : List ℕ) (result : Result (List ℕ) ReadFault) (events : List Event) : Type 0 where
  OfInput : path ≡ codes "-" → ReadsAllInput o.input result events → ReadsList o path result events
  OfFile : path ≢ codes "-" → ReadsText o.disk path result events → ReadsList o path result events

-- the list is read, and then the games of its lines are entered; or it can't be read, which is written
pub data EntersFrom {T P F K S L : Type 0} (o : Outside T P F K S L) (t : Enter) (path : List ℕ) (events : List Event) (status : Option ℕ) : Type 0 where
  ListRead : (text : List ℕ) (reading rest : List Event) → ReadsList o path (Ok text) reading → EntersList o t text rest status → events ≡ reading ++ rest → EntersFrom o t path events status
  ListUnread : (fault : ReadFault) (reading : List Event) → ReadsList o path (Err fault) reading → events ≡ reading ++ printed (cut_words fault ∷ []) → status ≡ Some 1 → EntersFrom o t path events status

-- ---- one or the other

abbrev pub EntersAs : {T P F K S L : Type 0} → Outside T P F K S L → Enter → Entries → List Event → Option ℕ → Type 0
EntersAs o t (One g) events status = EntersOne o t g events status
EntersAs o t (From path) events status = EntersFrom o t path.now events status

abbrev pub EntersGames : {T P F K S L : Type 0} → Outside T P F K S L → Enter → List Event → Option ℕ → Type 0
EntersGames o t events status = EntersAs o t t.entries events status
