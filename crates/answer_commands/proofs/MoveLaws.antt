-- The legal moves as lines.
use Rattle.std.proofs.Common.{◌≡◌, ◌∙◌, ◌≤◌, ℕ, Bool, List, Option, ap, length, map, subst, take}
use Rattle.std.proofs.lemmas.List.{take_all}
use Rattle.std.specs.Prelude.{Result}
use Rattle.answer_commands.specs.Inside.Answering.{IsMovesAnswer, MovesListed, NoRoom, NotText, PrintsAnswered}
use Rattle.answer_commands.specs.Moves.{NoRoomForMoves, OfNone, OfPosition, PrintsMoves, move_line, move_lines}
use Rattle.answer_parts.specs.Printing.{Prints}
use Rattle.answer_commands.specs.declared.answers.Answer.{Answer}
use Rattle.answer_parts.specs.Lines.{words_of}
use Rattle.board_core.specs.ComputedMoves.{legal_moves}
use Rattle.board_core.specs.declared.moves.Move.{Move}
use Rattle.board_core.specs.declared.parts.Parts.{Parts}
use Rattle.command_line.specs.declared.commands.moves.Moves.{Moves}
use Rattle.timeline.specs.Events.{Event}

pub moves_listed : (san : Bool) (p : Parts) (ms : List Move) (i : ℕ) (lines : List (List ℕ)) → length ms ≤ i → ms ≡ legal_moves p → lines ≡ map (move_line san p) (take i ms) → lines ≡ move_lines san p
unfolding move_lines
moves_listed san p ms i lines all legal ls = ls ∙ ap (map (move_line san p)) (take_all i ms all ∙ legal)

-- what is printed of an answer is what the command prints
pub prints_moves : {E : Type 0} (t : Moves) (answered : Result Answer E) → IsMovesAnswer t answered → (events : List Event) (status : Option ℕ) → PrintsAnswered answered events status → PrintsMoves t events status
prints_moves {E} t answered (MovesListed p lines spells legal is all) events status h =
    let listed : Prints (map words_of lines.items) 0 events status = subst (λ (r : Result Answer E). PrintsAnswered r events status) is h in
    OfPosition p spells legal (subst (λ (ls : List (List ℕ)). Prints ls 0 events status) all listed)
prints_moves {E} t answered (NotText fault first is) events status h = OfNone fault first (subst (λ (r : Result Answer E). PrintsAnswered r events status) is h)
prints_moves {E} t answered (NoRoom p e spells legal is) events status h = NoRoomForMoves p spells legal (subst (λ (r : Result Answer E). PrintsAnswered r events status) is h)
