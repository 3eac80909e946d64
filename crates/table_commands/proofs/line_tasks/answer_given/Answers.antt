use Rattle.std.proofs.Common.{◌∙◌, sym}
use Rattle.table_commands.proofs.line_tasks.answer_given.Goals as goal

pub returns-in-Some-clause-made : goal.returns-in-Some-clause-made
returns-in-Some-clause-made g c =
    let asked = sym c.asked_folder.ensures ∙ c.in-Some.is in
    rw asked (rw c.manifest.ensures at c.answer_in.ensures.made)

pub returns-in-None-clause-made : goal.returns-in-None-clause-made
returns-in-None-clause-made g c =
    let asked = sym c.asked_folder.ensures ∙ c.in-None.is in
    rw asked c.answer_of.ensures.made
