use Rattle.game_reports.proofs.LookLaws.{bad_file, has_both, no_file, no_record}
use Rattle.game_reports.specs.Inside.Opening.{known_folder}
use Rattle.game_reports.proofs.looking.read_entry.Goals as goal

pub returns-in-Err : goal.returns-in-Err
returns-in-Err g c = no_file (g.S.System.outside c.args.system.now) _ _ (known_folder c.args.folder.now) c.args.stamp c.in-Err.fault c.lack_of.result c.lack_of.ensures c.in-Err.ensures

pub returns-in-Err-read_game : goal.returns-in-Err-read_game
returns-in-Err-read_game g c = bad_file (g.S.System.outside c.args.system.now) _ _ (known_folder c.args.folder.now) c.args.stamp c.in-Ok.text.items c.in-Err-read_game.fault (rw c.deref.ensures.value at c.in-Err-read_game.ensures.err) c.in-Ok.ensures

pub returns-in-Ok-read_record : goal.returns-in-Ok-read_record
returns-in-Ok-read_record g c = has_both (g.S.System.outside c.args.system.now) _ _ _ (known_folder c.args.folder.now) c.args.stamp c.in-Ok.text.items _ (rw c.deref.ensures.value at c.in-Ok-read_game.ensures.ok) c.in-Ok.ensures c.in-Ok-read_record.ensures

pub returns : goal.returns
returns g c = no_record (g.S.System.outside c.args.system.now) _ _ _ (known_folder c.args.folder.now) c.args.stamp c.in-Ok.text.items c.in-Err-read_record.fault c.lack_of-in-Err-read_record.result c.lack_of-in-Err-read_record.ensures c.in-Ok.ensures c.in-Err-read_record.ensures
