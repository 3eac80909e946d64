use Rattle.std.proofs.Common.{◌∙◌}
use Rattle.std.specs.Prelude.{map}
use Rattle.std.proofs.lemmas.Result.{IfOk-weaker}
use Rattle.move_msg.specs.Manifests.{entry_of}
use Rattle.answer_commands.proofs.LookLaws.{same_reply}
use Rattle.answer_commands.proofs.check.check_manifest.Goals as goal

pub returns-in-Lines : goal.returns-in-Lines
returns-in-Lines c =
    let replied = rw c.deref.ensures.value at c.check_lines.ensures in
    rw c.in-Lines.is (IfOk-weaker c.check_lines.result _ _ (λ a h. λ files made. h ∙ same_reply c.args.seen.now files (map entry_of c.in-Lines.lines.items) made) replied)
