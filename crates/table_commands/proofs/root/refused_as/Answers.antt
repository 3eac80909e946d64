use Rattle.std.proofs.Common.{ap, sym}
use Rattle.answer_parts.specs.Reply.{refusal_reply}
use Rattle.table_commands.proofs.RootLaws.{other_words}
use Rattle.table_commands.proofs.root.refused_as.Goals as goal

pub returns-in-File : goal.returns-in-File
returns-in-File c = rw c.in-File.is c.refused_table_in.ensures

pub returns : goal.returns
returns c = ap refusal_reply (sym (other_words c.args.json c.args.refusal c.in_default.not-File))
