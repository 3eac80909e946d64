use Rattle.command_line.proofs.MisuseLaws.{one_word}
use Rattle.command_line.proofs.commands.is_version.Goals as goal

pub returns-in-len1 : goal.returns-in-len1
returns-in-len1 c = one_word c.args.words.now _ _ c.eq.result c.in-len1.len_at_least c.in-len1.len_below c.eq.ensures
