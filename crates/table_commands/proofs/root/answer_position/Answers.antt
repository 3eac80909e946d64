use Rattle.std.proofs.Common.{Some, ap, sym, ◌∙◌}
use Rattle.answer_parts.specs.Looks.{gathered}
use Rattle.command_line.specs.LazyFolders.{read_when_asked}
use Rattle.judge_core.specs.Ask.{ask_of}
use Rattle.table_commands.specs.Root.{IsToldIn}
use Rattle.table_commands.proofs.FolderReadLaws.{makes_of_given}
use Rattle.table_commands.proofs.root.answer_position.Goals as goal

pub returns-in-Some : goal.returns-in-Some
returns-in-Some g c =
    let asked = ap (λ l. read_when_asked l (Some c.args.task.now.tables)) (sym c.is_lazy.ensures) ∙ sym c.read_when_asked.ensures ∙ c.in-Some.is in
    rw asked (rw c.manifest-manifest.ensures at c.ranked_in.ensures)

pub returns-in-None : goal.returns-in-None
returns-in-None g c =
    let t = c.args.task.now in
    let asked = ap (λ l. read_when_asked l (Some t.tables)) (sym c.is_lazy.ensures) ∙ sym c.read_when_asked.ensures ∙ c.in-None.is in
    rw asked (makes_of_given (gathered c.args.sources.now) (IsToldIn t.json (ask_of t.determined)) c.args.position.now c.told_of.result _ (rw c.of-ask.ensures at c.told_of.ensures))
