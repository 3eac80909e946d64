use Rattle.std.proofs.Common.{sym}
use Rattle.std.proofs.lemmas.Result.{IfOk-weaker}
use Rattle.record_commands.specs.Audit.{Held}
use Rattle.record_commands.proofs.audit.answer_by.Goals as goal

pub returns : goal.returns
returns c =
    let spells = rw c.files.ensures.files at c.in_ok-manifest.ensures in
    let stamp = rw c.deref.ensures.value at c.stamp.ensures in
    let answered = rw (c.kept.ensures, c.other_in.ensures) at c.answer_files.ensures in
    IfOk-weaker c.answer_files.result _ _ (λ a h. Held c.args.set.tables c.in_ok-manifest.manifest.items c.stamp.result (sym c.requires) spells stamp h) answered
