use Rattle.table_commands.proofs.root.RootLineTask.answer_by_tables.Goals as goal

pub returns-then-self-clause-made : goal.returns-then-self-clause-made
returns-then-self-clause-made g c = rw (c.if-self.true, ← c.of-ask.ensures) c.answer_lines.ensures.made

pub returns-else-self-clause-made : goal.returns-else-self-clause-made
returns-else-self-clause-made g c = rw (c.if-self.false, ← c.of-ask.ensures) c.answer_lines-else-self.ensures.made
