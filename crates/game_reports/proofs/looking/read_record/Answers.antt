use Rattle.std.proofs.Common.{rules, ◌≡◌, None, Some, ap}
use Rattle.std.specs.Prelude.{Err}
use Rattle.game_reports.proofs.LookLaws.{in_store, not_from_store}
use Rattle.game_reports.specs.Inside.Opening.{known_folder}
use Rattle.game_reports.proofs.looking.read_record.Goals as goal

pub read_listed-requires : goal.read_listed-requires
read_listed-requires g c = search rules

pub returns-in-Ok : goal.returns-in-Ok
returns-in-Ok g c =
    let f = known_folder c.args.folder.now in
    let some : f.records c.args.stamp ≡ Some c.deref.result.now = search rules in
    in_store (g.S.System.outside c.args.system.now) _ f c.args.stamp c.deref.result.now c.in-Ok.bytes.items some c.in-Ok.ensures.bytes c.in-Ok.ensures.short

pub returns-in-Err : goal.returns-in-Err
returns-in-Err g c =
    let f = known_folder c.args.folder.now in
    let some : f.records c.args.stamp ≡ Some c.deref.result.now = search rules in
    not_from_store (g.S.System.outside c.args.system.now) _ f c.args.stamp c.deref.result.now c.in-Err.fault some (λ is. c.in-Err.ensures.cause (ap Err is))
