use Rattle.answer_commands.proofs.run.read_files.Goals as goal

pub returns-in-Some-clause-made : goal.returns-in-Some-clause-made
returns-in-Some-clause-made g c = rw c.in-Some.is c.read_tables.ensures.reads
