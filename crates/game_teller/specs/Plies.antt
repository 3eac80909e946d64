-- The lines of a game that is told ply by ply (this project's own).
use Rattle.std.specs.Prelude.{ℕ, List, ◌++◌, Option, codes}
use Rattle.std.specs.Fmt.{decimal}
use Rattle.board_core.specs.declared.parts.Parts.{Parts}
use Rattle.board_core.specs.declared.verdict.Verdict.{Verdict}
use Rattle.fen_text.specs.Written.{fen_of}
use Rattle.judge_core.specs.Words.{verdict_words}
use Rattle.table_folder.specs.Faults.{file_fault_name}
use Rattle.game_teller.specs.declared.lines.Stop.{Stop}
use Rattle.game_teller.specs.declared.lines.Stop.TheVariants.{NotAMove, Illegal, BadFile, Unread, OutOfMemory}

-- a ply: its number, its verdict or `open`, and the position's FEN text
abbrev pub ply_words : ℕ → Option Verdict → Parts → List ℕ
ply_words ply verdict p = decimal ply ++ codes " " ++ verdict_words verdict ++ codes " " ++ fen_of p

-- why no more is told
abbrev pub stop_words : Stop → List ℕ
stop_words (NotAMove place) = codes "refused move " ++ decimal place
stop_words (Illegal place) = codes "illegal " ++ decimal place
stop_words (BadFile refusal) = codes "refused " ++ refusal.name.bytes ++ codes " " ++ file_fault_name refusal.fault
stop_words Unread = codes "refused files"
stop_words OutOfMemory = codes "refused memory"
