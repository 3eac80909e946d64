use Rattle.std.proofs.Common.{Err, Ok}
use Rattle.table_commands.proofs.FolderReadLaws.{found_in_set, no_folder, not_opened}
use Rattle.table_commands.proofs.folders.ask_at.Goals as goal

pub returns-in-Ok-Err : goal.returns-in-Ok-Err
returns-in-Ok-Err g c = not_opened _ _ _ (g.Q.FolderQuestion.needed c.args.asked.now) (g.Q.FolderQuestion.finds c.args.asked.now) c.in-Ok-Err.refusal _ _ (rw c.in-Ok-Err.field-0-is at c.in-Ok-Err.ensures.made)

pub returns-in-Err : goal.returns-in-Err
returns-in-Err g c = no_folder _ _ _ (g.Q.FolderQuestion.needed c.args.asked.now) (g.Q.FolderQuestion.finds c.args.asked.now) c.in-Err.fault c.in-Err.fault _ _ c.in-Err.ensures.made

pub returns-in-Ok-Ok-ask : goal.returns-in-Ok-Ok-ask
returns-in-Ok-Ok-ask g c =
    let disk = rw c.in-Ok-Ok.field-0-is at c.in-Ok-Ok.ensures.disk in
    let empty = rw c.in-Ok-Ok.field-0-is at c.in-Ok-Ok.ensures.empty in
    let opens = rw c.in-Ok-Ok.field-0-is at c.in-Ok-Ok.ensures.made in
    found_in_set g.F.TableFiles.facts g.F.TableFiles.events (g.Q.FolderQuestion.needed c.args.asked.now) (g.Q.FolderQuestion.finds c.args.asked.now) _ c.in-Ok-Ok.opened.0 _ c.ask.new.set.tables _ _ (Ok (Ok c.in-Ok-Ok-ask.found)) _ _ _ disk empty opens (rw c.in-Ok-Ok-ask.field-0-is at c.in-Ok-Ok-ask.ensures.made)

pub returns-in-Ok-Err-ask : goal.returns-in-Ok-Err-ask
returns-in-Ok-Err-ask g c =
    let disk = rw c.in-Ok-Ok.field-0-is at c.in-Ok-Ok.ensures.disk in
    let empty = rw c.in-Ok-Ok.field-0-is at c.in-Ok-Ok.ensures.empty in
    let opens = rw c.in-Ok-Ok.field-0-is at c.in-Ok-Ok.ensures.made in
    found_in_set g.F.TableFiles.facts g.F.TableFiles.events (g.Q.FolderQuestion.needed c.args.asked.now) (g.Q.FolderQuestion.finds c.args.asked.now) _ c.in-Ok-Ok.opened.0 _ c.ask.new.set.tables _ _ (Ok (Err c.in-Ok-Err-ask.refused)) _ _ _ disk empty opens (rw c.in-Ok-Err-ask.field-0-is at c.in-Ok-Err-ask.ensures.made)

pub returns : goal.returns
returns g c =
    let disk = rw c.in-Ok-Ok.field-0-is at c.in-Ok-Ok.ensures.disk in
    let empty = rw c.in-Ok-Ok.field-0-is at c.in-Ok-Ok.ensures.empty in
    let opens = rw c.in-Ok-Ok.field-0-is at c.in-Ok-Ok.ensures.made in
    found_in_set g.F.TableFiles.facts g.F.TableFiles.events (g.Q.FolderQuestion.needed c.args.asked.now) (g.Q.FolderQuestion.finds c.args.asked.now) _ c.in-Ok-Ok.opened.0 _ c.ask.new.set.tables _ _ (Err c.in-Err-ask.fault) _ _ _ disk empty opens c.in-Err-ask.ensures.made
