-- A folder of games (this project's own): of each game its file and its record, by its stamp.
use Rattle.std.specs.Prelude.{◌++◌, ◌∷◌, ℕ, List, codes}
use Rattle.hex.specs.Hex.{encode_lower}
use Rattle.fen_text.specs.Written.{fen_of}
use Rattle.move_msg.specs.Stamps.{stamp_of}
use Rattle.system_io.specs.Disks.{DiskFacts}
use Rattle.arbiter_server.specs.GameFiles.{GameContents, SpellsGame}

-- ---- paths

-- the file of this stamp and ending in the folder: the stamp in lower-case hexadecimal digits
abbrev pub path_of : List ℕ → List ℕ → List ℕ → List ℕ
path_of folder stamp ending = folder ++ 47 ∷ encode_lower stamp ++ ending

-- where a game's file is, and where its record is kept
abbrev pub game_path : List ℕ → List ℕ → List ℕ
game_path folder stamp = path_of folder stamp (codes ".game")

abbrev pub kept_path : List ℕ → List ℕ → List ℕ
kept_path folder stamp = path_of folder stamp (codes ".kept")

-- ---- a game's file

-- a game's file has at most so many bytes
abbrev pub most_game_bytes : ℕ
most_game_bytes = 192

-- the stamp of a game, by the manifest of its tables
abbrev pub game_stamp : GameContents → List ℕ → List ℕ
game_stamp g manifest = stamp_of g.name (fen_of g.start) manifest g.delay

-- the folder has the file of this game under this stamp
pub record HasGame (disk : DiskFacts) (folder stamp : List ℕ) (g : GameContents) : Type 0 where
  pub text : List ℕ
  pub held : disk.holds (game_path folder stamp) text
  pub spells : SpellsGame text g
