-- What a folder has of one game (this project's own): its file, and its record where it lists one.
use Rattle.std.specs.Prelude.{◌++◌, ℕ, List, codes}
use Rattle.std.specs.Fmt.{decimal}
use Rattle.move_msg.specs.Records.{record_fault_name}
use Rattle.arbiter_server.specs.declared.game_file.Game.{Game}
use Rattle.arbiter_server.specs.GameFiles.{GameContents, game_as_told, line_number}
use Rattle.game_status.specs.declared.entry.EntryFault.{EntryFault}
use Rattle.game_status.specs.declared.entry.EntryFault.TheVariants.{NoGame, BadGame, Keeper, BadRecord, OtherStamp, OtherGame}

-- a record has at most so many bytes
abbrev pub most_kept : ℕ
most_kept = 8217

abbrev pub game_told : Game → GameContents
game_told g = game_as_told g.name.items g.start g.delay

-- what is at fault, and how a line tells it
abbrev pub fault_words : EntryFault → List ℕ
fault_words NoGame = codes "NoGame"
fault_words (BadGame fault) = codes "line " ++ decimal (line_number fault)
fault_words Keeper = codes "keeper"
fault_words (BadRecord fault) = codes "record " ++ record_fault_name fault
fault_words OtherStamp = codes "stamp"
fault_words OtherGame = codes "OtherGame"

abbrev pub listed_fault_words : EntryFault → List ℕ
listed_fault_words fault = codes "refused " ++ fault_words fault
