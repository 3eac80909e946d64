use Rattle.std.proofs.Common.{sym, ◌∙◌}
use Rattle.answer_parts.specs.Looks.{gathered}
use Rattle.table_commands.specs.Probe.{IsProbeReply}
use Rattle.table_commands.proofs.FolderReadLaws.{makes_of_given}
use Rattle.table_commands.proofs.probe.answer_position.Goals as goal

pub returns-in-Some : goal.returns-in-Some
returns-in-Some g c =
    let asked = sym c.read_when_asked.ensures ∙ c.in-Some.is in
    rw asked (rw c.manifest-manifest.ensures at c.told_in.ensures)

pub returns-in-None : goal.returns-in-None
returns-in-None g c =
    let asked = sym c.read_when_asked.ensures ∙ c.in-None.is in
    rw asked (makes_of_given (gathered c.args.sources.now) IsProbeReply c.args.position.now c.told_of.result _ c.told_of.ensures)
