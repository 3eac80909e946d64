use Rattle.table_commands.proofs.FollowLaws.{in_folder, no_room_to_open, not_opened}
use Rattle.table_commands.proofs.follow.follow_in.Goals as goal

pub returns-in-Ok-Ok-clause-made : goal.returns-in-Ok-Ok-clause-made
returns-in-Ok-Ok-clause-made g c =
    let opened = rw c.in-Ok-Ok.field-0-is at c.in-Ok-Ok.ensures.made in
    in_folder (g.S.System.outside c.args.system.now) c.args.path.now c.args.manifest.now c.args.game.now _ _ _ c.follow_opened.result c.in-Ok-Ok.folder.folder opened c.follow_opened.ensures.made

pub returns-in-Ok-Err-clause-made : goal.returns-in-Ok-Err-clause-made
returns-in-Ok-Err-clause-made g c =
    let opened = rw c.in-Ok-Err.field-0-is at c.in-Ok-Err.ensures.made in
    not_opened (g.S.System.outside c.args.system.now) c.args.path.now c.args.manifest.now c.args.game.now _ _ _ c.print_refusal.result c.in-Ok-Err.refusal opened c.print_refusal.ensures.made

pub returns-clause-made : goal.returns-clause-made
returns-clause-made g c =
    no_room_to_open (g.S.System.outside c.args.system.now) c.args.path.now c.args.manifest.now c.args.game.now _ _ _ c.print_refusal-in-Err.result _ c.in-Err.ensures.made c.print_refusal-in-Err.ensures.made
