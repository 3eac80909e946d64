use Rattle.std.proofs.Common.{Bool, List, ap, true, ℕ, ◌∙◌}
use Rattle.std.proofs.lemmas.Result.{IfOk-weaker}
use Rattle.move_msg.specs.TextLines.{ended}
use Rattle.table_commands.specs.FolderAnswers.{refused_table_in}
use Rattle.answer_parts.specs.Reply.{status_if}
use Rattle.json_lines.specs.Told.{is_done}
use Rattle.table_commands.proofs.root.refused_table_in.Goals as goal

pub returns-then-json : goal.returns-then-json
returns-then-json c =
    rw c.if-json.true (IfOk-weaker c.answer_as_json.result _ _ (λ a is.
    is
    ∙ ap (λ (words : List ℕ). record { text = ended words; status = status_if (is_done c.refused_line.result) }) c.refused_line.ensures.text
    ∙ ap (λ (done : Bool). record { text = ended (refused_table_in true c.args.refusal); status = status_if done }) c.refused_line.ensures.done) c.answer_as_json.ensures)
