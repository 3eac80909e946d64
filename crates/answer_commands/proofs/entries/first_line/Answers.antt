use Rattle.std.proofs.Common.{rules}
use Rattle.answer_commands.proofs.EntryLaws.{line_alone, line_in_front, no_lines, shorter_behind}
use Rattle.answer_commands.proofs.entries.first_line.Goals as goal

pub returns-then-is_empty-clause-none : goal.returns-then-is_empty-clause-none
returns-then-is_empty-clause-none c = no_lines c.args.text.now (search rules)

pub returns-in-Some-clause-some : goal.returns-in-Some-clause-some
returns-in-Some-clause-some c = line_in_front _ _ _ c.in-Some.ensures.some

pub returns-in-Some-clause-shorter : goal.returns-in-Some-clause-shorter
returns-in-Some-clause-shorter c = shorter_behind _ c.in-Some.line.now _ c.in-Some.ensures.some

pub returns-in-None-clause-some : goal.returns-in-None-clause-some
returns-in-None-clause-some c = line_alone c.args.text.now (search rules) c.in-None.ensures.none
