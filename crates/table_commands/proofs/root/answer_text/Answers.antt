use Rattle.std.proofs.Common.{Some, ap}
use Rattle.std.specs.Prelude.{Ok}
use Rattle.command_line.specs.Commands.Root.{is_lazy}
use Rattle.command_line.specs.LazyFolders.{read_when_asked}
use Rattle.table_commands.specs.JsonAnswers.{refused_in}
use Rattle.table_commands.specs.Root.{RanksAt}
use Rattle.table_commands.proofs.FolderReadLaws.{makes_for_none, makes_for_text}
use Rattle.table_commands.proofs.root.answer_text.Goals as goal

pub returns-in-Err : goal.returns-in-Err
returns-in-Err g c =
    let t = c.args.task.now in
    makes_for_none _ _ (refused_in t.json) (λ p. RanksAt (g.F.TableFiles.facts c.args.disk.now) t c.args.sources.now p (read_when_asked (is_lazy t) (Some t.tables))) c.in-Err.fault _ _ c.as_bytes.ensures.value c.in-Err.ensures.err (ap Ok c.refused_in.ensures)

pub returns-in-Ok : goal.returns-in-Ok
returns-in-Ok g c =
    let t = c.args.task.now in
    makes_for_text _ _ (refused_in t.json) (λ p. RanksAt (g.F.TableFiles.facts c.args.disk.now) t c.args.sources.now p (read_when_asked (is_lazy t) (Some t.tables))) c.in-Ok.position _ _ _ c.as_bytes.ensures.value c.in-Ok.ensures.ok c.in-Ok.ensures.position c.answer_position.ensures
