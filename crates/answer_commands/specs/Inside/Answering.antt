-- Answers before they are written; cited by private functions alone.
use Rattle.std.specs.Prelude.{◌≡◌, ℕ, List, [], ◌∷◌, map, Option, Result, Ok, Err, Vec}
use Rattle.std.specs.Global.{Global}
use Rattle.answer_commands.specs.declared.answers.Answer.{Answer}
use Rattle.answer_commands.specs.declared.answers.Answer.TheVariants.{Lines, Refused}
use Rattle.answer_parts.specs.Printing.{Prints}
use Rattle.answer_parts.specs.Lines.{refusal_words, words_of}
use Rattle.line_teller.specs.ToldLines.{refused_memory}
use Rattle.timeline.specs.Events.{Event}
use Rattle.answer_commands.specs.Moves.{move_lines}
use Rattle.answer_parts.specs.declared.answers.lines.Line.{Line}
use Rattle.answer_parts.specs.declared.answers.refusals.Refusal.TheVariants.{Fen}
use Rattle.board_core.specs.Position.{IsPosition}
use Rattle.board_core.specs.declared.parts.Parts.{Parts}
use Rattle.command_line.specs.declared.commands.moves.Moves.{Moves}
use Rattle.fen_text.specs.Fen.{IsFirstFenFault, SpellsPosition}
use Rattle.fen_text.specs.declared.fault.FenFault.{FenFault}

abbrev pub answer_lines : Answer → List (List ℕ)
answer_lines (Lines lines) = map words_of lines.items
answer_lines (Refused refusal) = refusal_words refusal ∷ []

abbrev pub answer_status : Answer → ℕ
answer_status (Lines lines) = 0
answer_status (Refused refusal) = 1

-- its lines are written, or that memory was refused for it
abbrev pub PrintsAnswered : {E : Type 0} → Result Answer E → List Event → Option ℕ → Type 0
PrintsAnswered (Ok answer) events status = Prints (answer_lines answer) (answer_status answer) events status
PrintsAnswered (Err e) events status = Prints (refused_memory ∷ []) 1 events status

-- the legal moves of the position of a text, or that it is none; memory may be refused for a position alone
pub data IsMovesAnswer {E : Type 0} (t : Moves) (answered : Result Answer E) : Type 0 where
  MovesListed : (p : Parts) (lines : Vec Line Global) → SpellsPosition t.fen.now p → IsPosition p → answered ≡ Ok (Lines lines) → map words_of lines.items ≡ move_lines t.san p → IsMovesAnswer t answered
  NotText : (fault : FenFault) → IsFirstFenFault t.fen.now fault → answered ≡ Ok (Refused (Fen fault)) → IsMovesAnswer t answered
  NoRoom : (p : Parts) (e : E) → SpellsPosition t.fen.now p → IsPosition p → answered ≡ Err e → IsMovesAnswer t answered
