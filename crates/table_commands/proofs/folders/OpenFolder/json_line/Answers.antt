use Rattle.table_commands.proofs.folders.OpenFolder.json_line.Goals as goal

pub returns-then-with_moves-clause-made : goal.returns-then-with_moves-clause-made
returns-then-with_moves-clause-made g c = rw c.if-with_moves.true c.ask.ensures.made

pub returns-else-with_moves-clause-made : goal.returns-else-with_moves-clause-made
returns-else-with_moves-clause-made g c = rw c.if-with_moves.false c.json_alone.ensures.made
