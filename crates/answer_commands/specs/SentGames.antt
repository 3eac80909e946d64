-- The game that `send` sends, as it is read (this project's own).
use Rattle.std.specs.Prelude.{◌≡◌, ◌⊎◌, ℕ, List, [], ◌∷◌, Result, Ok, Err, option_map}
use Rattle.answer_commands.specs.Stamping.{ReadsStamping}
use Rattle.answer_commands.specs.declared.sent_game.GameSent.{GameSent}
use Rattle.answer_parts.specs.Lines.{refused_fen, refused_line}
use Rattle.arbiter_server.specs.GameFiles.{GameContents, IsFirstGameFault, SpellsGame, line_number}
use Rattle.arbiter_server.specs.GameFolders.{most_game_bytes}
use Rattle.arbiter_server.specs.declared.game_lines.GameFileFault.{GameFileFault}
use Rattle.board_core.specs.Position.{IsPosition}
use Rattle.board_core.specs.declared.parts.Parts.{Parts}
use Rattle.command_line.specs.declared.commands.send.GameFile.{GameFile}
use Rattle.command_line.specs.declared.commands.send.Send.{Send}
use Rattle.command_line.specs.declared.commands.send.SentGame.{SentGame}
use Rattle.command_line.specs.declared.commands.send.SentGame.TheVariants as sent
use Rattle.command_line.specs.declared.commands.send.ToldGame.{ToldGame}
use Rattle.fen_text.specs.Fen.{IsFirstFenFault, SpellsPosition}
use Rattle.fen_text.specs.Written.{fen_of}
use Rattle.fen_text.specs.declared.fault.FenFault.{FenFault}
use Rattle.line_teller.specs.ToldLines.{cut_words}
use Rattle.move_msg.specs.Stamps.{stamp_of}
use Rattle.system_io.specs.Disks.{AtFile, DiskFacts, HasMore}
use Rattle.system_io.specs.declared.reading.ReadFault.{ReadFault}
use Rattle.system_io.specs.declared.reading.ReadFault.TheVariants as read
use Rattle.timeline.specs.Events.{Event, FileRead}

-- Words tell it. The text of the start is no position, and nothing is read; or else the manifest by which it is stamped is read; or there is
-- none, for which these are the words.
pub data ReadsToldGame (disk : DiskFacts) (t : Send) (g : ToldGame) (result : Result GameSent (List ℕ)) (events : List Event) : Type 0 where
  BadStart : (fault : FenFault) → IsFirstFenFault g.start.now fault → result ≡ Err (refused_fen fault) → events ≡ [] → ReadsToldGame disk t g result events
  IsStamped : (start : Parts) (manifest : List ℕ) → SpellsPosition g.start.now start → IsPosition start → ReadsStamping disk (option_map (λ s. s.now) t.manifest) g.tables.now (Ok manifest) events → result ≡ Ok (record { stamp = stamp_of g.name (fen_of start) manifest t.delay; start = start }) → ReadsToldGame disk t g result events
  NotStamped : (start : Parts) (words : List ℕ) → SpellsPosition g.start.now start → IsPosition start → ReadsStamping disk (option_map (λ s. s.now) t.manifest) g.tables.now (Err words) events → result ≡ Err words → ReadsToldGame disk t g result events

-- A file tells it, and the file's name its stamp; whether that is the stamp of the game that is told there no one can say without the manifest
-- of its tables. The file is read, at most 192 bytes of it; or a line of it is at fault; or it can't be read.
pub data ReadsGameFile (disk : DiskFacts) (f : GameFile) (result : Result GameSent (List ℕ)) (events : List Event) : Type 0 where
  IsGame : (text : List ℕ) (told : GameContents) → disk.holds f.path.now text → SpellsGame text told → result ≡ Ok (record { stamp = f.stamp; start = told.start }) → events ≡ FileRead f.path.now (Ok text) ∷ [] → ReadsGameFile disk f result events
  BadLine : (text : List ℕ) (fault : GameFileFault) → disk.holds f.path.now text → IsFirstGameFault text fault → result ≡ Err (refused_line (line_number fault)) → events ≡ FileRead f.path.now (Ok text) ∷ [] → ReadsGameFile disk f result events
  NotRead : (why : ReadFault) → (why ≡ read.Unreadable → disk.fails (AtFile f.path.now) ⊎ HasMore disk f.path.now most_game_bytes) → result ≡ Err (cut_words why) → events ≡ FileRead f.path.now (Err why) ∷ [] → ReadsGameFile disk f result events

-- the game, or the words that say why there is none
abbrev pub ReadsSent : DiskFacts → Send → SentGame → Result GameSent (List ℕ) → List Event → Type 0
ReadsSent disk t (sent.Told g) = ReadsToldGame disk t g
ReadsSent disk t (sent.InFile f) = ReadsGameFile disk f
