use Rattle.std.proofs.Common.{map, string_bytes}
use Rattle.host_commands.proofs.ImportLaws.{listed_so}
use Rattle.host_commands.proofs.importing.stamps_in.Goals as goal

pub returns : goal.returns
returns c = listed_so (map string_bytes c.args.names.now) _ _ c.new-kept.ensures.empty c.in_ok-add_stamps.ensures c.rising.result c.rising.ensures.all c.rising.ensures.rising
