use Rattle.std.proofs.Common.{◌++◌}
use Rattle.command_line.specs.Inside.Putting.{words_behind}
use Rattle.command_line.specs.Uses.{shown_line}
use Rattle.command_line.proofs.PutLaws.{cut_goes, goes_after}
use Rattle.command_line.proofs.words.uses.tell_line.Goals as goal

pub returns-in-Ok : goal.returns-in-Ok
returns-in-Ok g c =
    let line = rw (c.as_bytes.ensures.value, c.as_bytes-2.ensures.value) at c.in-Ok.ensures in
    goes_after (g.S.System.outside c.args.system.now) _ _ _ (shown_line (c.args.front.now ++ c.args.middle.now ++ c.args.rest.now)) (words_behind c.args.behind) line c.tell_behind.ensures

pub returns-in-Err : goal.returns-in-Err
returns-in-Err g c =
    let cut = rw (c.as_bytes.ensures.value, c.as_bytes-2.ensures.value) at c.in-Err.ensures in
    cut_goes (g.S.System.outside c.args.system.now) _ _ (shown_line (c.args.front.now ++ c.args.middle.now ++ c.args.rest.now)) (words_behind c.args.behind) cut
