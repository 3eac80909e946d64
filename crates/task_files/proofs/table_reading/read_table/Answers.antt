use Rattle.std.proofs.Common.{◌≡◌, ◌∙◌, Err, ap, sym}
use Rattle.move_msg.specs.Files.{table_file_of}
use Rattle.task_files.specs.Outside.{path_in}
use Rattle.task_files.proofs.ReadLaws.{is_read, not_read}
use Rattle.task_files.proofs.table_reading.read_table.Goals as goal

pub returns-in-Ok-read : goal.returns-in-Ok-read
returns-in-Ok-read g c =
    let at : c.as_str.result.now ≡ path_in c.args.folder.now c.args.name.now = c.as_str.ensures.value ∙ c.in-Ok.ensures.ok ∙ ap (path_in c.args.folder.now) c.as_str-text.ensures.text in
    is_read (g.S.System.outside c.args.system.now) _ _ c.args.folder.now c.args.name.now _ (table_file_of (record { name = c.text.result; bytes = c.in-Ok-read.bytes })) (at ∙ ap (path_in c.args.folder.now) (sym c.text.ensures.text)) c.text.ensures.text c.in-Ok-read.ensures.bytes c.in-Ok-read.ensures.short c.in-Ok-read.ensures.made

pub returns : goal.returns
returns g c =
    let at : c.as_str.result.now ≡ path_in c.args.folder.now c.args.name.now = c.as_str.ensures.value ∙ c.in-Ok.ensures.ok ∙ ap (path_in c.args.folder.now) c.as_str-text.ensures.text in
    not_read (g.S.System.outside c.args.system.now) _ _ c.args.folder.now c.args.name.now _ c.in-Err.fault at (λ same. c.in-Err.ensures.cause (ap Err same)) c.in-Err.ensures.made
