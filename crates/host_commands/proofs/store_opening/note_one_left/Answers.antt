use Rattle.arbiter_server.specs.GameFolders.{kept_path}
use Rattle.host_commands.proofs.OpenLaws.{left_noted}
use Rattle.host_commands.proofs.store_opening.note_one_left.Goals as goal

pub returns : goal.returns
returns g c = left_noted (g.S.System.outside c.args.system.now) c.args.folder.now (kept_path c.args.folder.now c.args.stamp) _ _ c.left_words.result c.left_words.ensures c.note_line.ensures
