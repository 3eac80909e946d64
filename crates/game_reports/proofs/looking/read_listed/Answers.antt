use Rattle.std.proofs.Common.{rules, ◌≡◌, false, true}
use Rattle.game_status.proofs.ListingLaws.{is_listed, is_unlisted}
use Rattle.game_reports.proofs.LookLaws.{in_file, not_from_file, not_kept}
use Rattle.game_reports.specs.Inside.Opening.{known_folder}
use Rattle.game_reports.proofs.looking.read_listed.Goals as goal

pub returns-then-not-contains : goal.returns-then-not-contains
returns-then-not-contains g c =
    let no : c.contains.result ≡ false = search rules in
    not_kept (g.S.System.outside c.args.system.now) _ (known_folder c.args.folder.now) c.args.stamp c.requires (is_unlisted c.args.folder.now.kept c.args.stamp c.contains.result c.contains.ensures no)

pub returns-in-Ok : goal.returns-in-Ok
returns-in-Ok g c =
    let yes : c.contains.result ≡ true = search rules in
    in_file (g.S.System.outside c.args.system.now) _ _ (known_folder c.args.folder.now) c.args.stamp c.in-Ok.bytes.items c.requires (is_listed c.args.folder.now.kept c.args.stamp c.contains.result c.contains.ensures yes) c.in-Ok.ensures

pub returns-in-Err : goal.returns-in-Err
returns-in-Err g c =
    let yes : c.contains.result ≡ true = search rules in
    not_from_file (g.S.System.outside c.args.system.now) _ _ (known_folder c.args.folder.now) c.args.stamp c.in-Err.fault c.requires (is_listed c.args.folder.now.kept c.args.stamp c.contains.result c.contains.ensures yes) c.in-Err.ensures
