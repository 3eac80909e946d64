use Rattle.table_commands.proofs.FolderReadLaws.{columns_found}
use Rattle.table_commands.proofs.questions.ColumnsOfFolderQuestion.ask.Goals as goal

pub returns-clause-made : goal.returns-clause-made
returns-clause-made g c =
    columns_found (g.F.TableFiles.facts c.args.folder.now.disk) c.args.folder.now.folder c.args.self.now.position.now c.args.set.now.tables c.settle.new.set.tables c.settle.result _ _ c.settle.ensures.opened c.settle.ensures.only c.settle.ensures.probed c.settle.ensures.verdict c.settle.ensures.settled c.settle.ensures.refused c.settle.ensures.made
