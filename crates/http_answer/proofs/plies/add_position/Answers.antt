use Rattle.std.specs.Prelude.{codes}
use Rattle.std.proofs.lemmas.Result.{on_ok_weaker}
use Rattle.json_lines.specs.Objects.{line_json}
use Rattle.game_status.proofs.ObjectLaws.{followed, one, valued}
use Rattle.http_answer.proofs.plies.add_position.Goals as goal

pub returns-clause-added : goal.returns-clause-added
returns-clause-added g c =
    let fen = rw (c.as_str.ensures.value, c.write.ensures.text) at c.in_ok-add_text.ensures in
    on_ok_weaker c.add_line.result (λ h. (c.in_ok-line.line, c.in_ok-line.ensures.answer, followed _ _ _ _ _ fen (valued _ _ _ (codes "tables") (line_json c.in_ok-line.line) (one _ _ _ _ c.in_ok-key.ensures) h))) c.add_line.ensures
