use Rattle.std.proofs.Common.{[], ◌∷◌, true}
use Rattle.timeline.specs.Events.{FileOpened}
use Rattle.timeline.proofs.EventLaws.{adds_then}
use Rattle.game_folder.specs.RecordFiles.{StartsFile, TakesFile}
use Rattle.game_folder.proofs.RecordLaws.{opened_then}
use Rattle.game_folder.proofs.record_file.take_file.Goals as goal

pub returns : goal.returns
returns g c =
    let o = g.S.System.outside c.args.system.now in
    let at = o.path c.in-Ok-file.file in
    adds_then o c.args.timeline.now c.file.new.timeline c.start_file.new.timeline (FileOpened c.args.path.now true ∷ []) (StartsFile o at c.args.stamp c.start_file.result) (TakesFile o c.args.path.now c.args.stamp c.start_file.result)
    (opened_then o c.args.path.now at c.args.stamp c.start_file.result c.in-Ok-file.ensures.at) c.in-Ok-file.ensures.made c.start_file.ensures
