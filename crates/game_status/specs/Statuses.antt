-- How far the games of a folder, or of two, have come (this project's own).
use Rattle.std.specs.Prelude.{◌≡◌, ◌≢◌, ◌++◌, ℕ, List, Option, Some, None, length, codes}
use Rattle.std.specs.Fmt.{decimal}
use Rattle.hex.specs.Hex.{encode_lower}
use Rattle.move_msg.specs.declared.record_bytes.Record.{Record as Records}
use Rattle.arbiter_server.specs.ServedLines.{verdict_or_none}
use Rattle.game_status.specs.declared.comparing.Compared.{Compared}
use Rattle.game_status.specs.declared.entry.EntryFault.{EntryFault}
use Rattle.game_status.specs.declared.entry.EntryFault.TheVariants.{OtherGame}
use Rattle.game_status.specs.declared.side.Side.{Side}
use Rattle.game_status.specs.declared.status_lines.Look.{Look}
use Rattle.game_status.specs.declared.status_lines.Look.TheVariants as look
use Rattle.game_status.specs.declared.telling.Mark.{Mark}
use Rattle.game_status.specs.declared.telling.Mark.TheVariants as mark
use Rattle.game_status.specs.Comparisons.{IsComparedAs, compared_words, mark_of, mark_of_two}
use Rattle.game_status.specs.Entries.{game_told, listed_fault_words}
use Rattle.game_status.specs.declared.telling.GameTold.{GameTold}

-- ---- the lines

-- how many moves a record has and its verdict; or that nothing is kept
abbrev pub kept_words : Option Records → List ℕ
kept_words None = codes "- none"
kept_words (Some r) = decimal (length r.moves) ++ codes " " ++ verdict_or_none r.verdict

-- the stamp, what is kept, and the game's name
abbrev pub line_of_one : List ℕ → Side → List ℕ
line_of_one stamp side = encode_lower stamp ++ codes " " ++ kept_words side.kept ++ codes " " ++ side.game.name.items

-- the stamp, what is kept in each folder, and what comes of comparing it
abbrev pub columns_of_two : List ℕ → Option Records → Option Records → Compared → List ℕ
columns_of_two stamp one other compared =
    encode_lower stamp ++ codes " " ++ kept_words one ++ codes " " ++ kept_words other ++ codes " " ++ compared_words compared

-- the stamp, what is kept in each folder, what comes of comparing it, and the name in the first folder
abbrev pub line_of_two : List ℕ → Side → Side → Compared → List ℕ
line_of_two stamp one other compared =
    encode_lower stamp ++ codes " " ++ kept_words one.kept ++ codes " " ++ kept_words other.kept ++ codes " " ++ compared_words compared ++ codes " " ++ one.game.name.items

abbrev pub fault_line : List ℕ → EntryFault → List ℕ
fault_line stamp fault = encode_lower stamp ++ codes " " ++ listed_fault_words fault

abbrev pub other_fault_line : List ℕ → EntryFault → List ℕ
other_fault_line stamp fault = encode_lower stamp ++ codes " " ++ codes "other " ++ listed_fault_words fault

-- what is told, and how the game is counted: as ruled where its record has a verdict; of two records where they agree on one
abbrev pub game_told_by : List ℕ → Look → GameTold
game_told_by stamp (look.One side) = record { words = line_of_one stamp side; mark = mark_of side.kept }
game_told_by stamp (look.Both side other compared) = record { words = line_of_two stamp side other compared; mark = mark_of_two side.kept compared }
game_told_by stamp (look.AtFault fault) = record { words = fault_line stamp fault; mark = mark.AtFault }
game_told_by stamp (look.OtherAtFault fault) = record { words = other_fault_line stamp fault; mark = mark.AtFault }

-- how it is counted
abbrev pub status_mark : Look → Mark
status_mark (look.One side) = mark_of side.kept
status_mark (look.Both side other compared) = mark_of_two side.kept compared
status_mark (look.AtFault fault) = mark.AtFault
status_mark (look.OtherAtFault fault) = mark.AtFault

-- ---- one game

-- the folders' files tell one game, and the records are compared; or the second's tells another one
abbrev pub IsLookAtBoth : Side → Side → Look → Type 0
IsLookAtBoth one other (look.One side) = ⊥
IsLookAtBoth one other (look.Both side beside compared) =
    (side ≡ one) × (beside ≡ other) × (game_told one.game ≡ game_told other.game) × IsComparedAs one.kept other.kept compared
IsLookAtBoth one other (look.AtFault fault) = ⊥
IsLookAtBoth one other (look.OtherAtFault fault) = (fault ≡ OtherGame) × (game_told one.game ≢ game_told other.game)
