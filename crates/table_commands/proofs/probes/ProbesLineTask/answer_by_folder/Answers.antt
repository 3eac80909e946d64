use Rattle.std.proofs.Common.{false}
use Rattle.table_commands.specs.JsonAnswers.{json_lines_in}
use Rattle.table_commands.specs.Probes.{column_lines_in}
use Rattle.table_commands.proofs.LineLaws.{answers_over}
use Rattle.table_commands.proofs.probes.ProbesLineTask.answer_by_folder.Goals as goal

pub returns-then-self-clause-made : goal.returns-then-self-clause-made
returns-then-self-clause-made g c =
    let folder = c.args.folder in
    rw c.if-self.true (answers_over g.S.System.outside (λ disk. json_lines_in false disk folder.on.folder) _ _ _ c.args.self.now.progress c.answer_lines.result _ _ c.requires.from c.requires.empty c.answer_lines.ensures.made)

pub returns-else-self-clause-made : goal.returns-else-self-clause-made
returns-else-self-clause-made g c =
    let folder = c.args.folder in
    rw c.if-self.false (answers_over g.S.System.outside (λ disk. column_lines_in disk folder.on.folder) _ _ _ c.args.self.now.progress c.answer_lines-else-self.result _ _ c.requires.from c.requires.empty c.answer_lines-else-self.ensures.made)
