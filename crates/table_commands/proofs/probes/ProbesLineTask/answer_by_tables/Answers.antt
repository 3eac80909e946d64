use Rattle.table_commands.proofs.probes.ProbesLineTask.answer_by_tables.Goals as goal

pub returns-then-self-clause-made : goal.returns-then-self-clause-made
returns-then-self-clause-made g c = rw c.if-self.true c.answer_lines.ensures.made

pub returns-else-self-2-clause-made : goal.returns-else-self-2-clause-made
returns-else-self-2-clause-made g c = rw (c.if-self.false, c.if-self-2.false, ← c.of-ask.ensures) c.answer_lines-else-self-2.ensures.made
