use Rattle.std.proofs.Common.{sym, ◌∙◌}
use Rattle.table_commands.proofs.pgn.judge_by.Goals as goal

pub returns-in-Some-clause-made : goal.returns-in-Some-clause-made
returns-in-Some-clause-made g c =
    let asked = sym c.read_when_asked.ensures ∙ c.in-Some.is in
    rw asked (rw c.manifest-manifest.ensures at c.judge_in_folder.ensures.made)

pub returns-in-None-clause-made : goal.returns-in-None-clause-made
returns-in-None-clause-made g c =
    let asked = sym c.read_when_asked.ensures ∙ c.in-None.is in
    rw asked c.judge_by_all.ensures.made
