use Rattle.std.proofs.Common.{[]}
use Rattle.command_line.specs.Uses.{help_head}
use Rattle.command_line.proofs.PutLaws.{cut_goes, goes_after}
use Rattle.command_line.proofs.words.uses.tell_help_of.Goals as goal

pub returns-in-Ok : goal.returns-in-Ok
returns-in-Ok g c =
    let head = rw (c.as_bytes.ensures.value, c.word.ensures) at c.in-Ok.ensures in
    (c.tell_use.ensures.0, goes_after (g.S.System.outside c.args.system.now) _ _ _ (help_head c.args.name) c.tell_use.ensures.0 head c.tell_use.ensures.1)

pub returns-in-Err : goal.returns-in-Err
returns-in-Err g c =
    let cut = rw (c.as_bytes.ensures.value, c.word.ensures) at c.in-Err.ensures in
    ([], cut_goes (g.S.System.outside c.args.system.now) _ _ (help_head c.args.name) [] cut)
