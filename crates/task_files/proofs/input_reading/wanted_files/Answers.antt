use Rattle.task_files.proofs.input_reading.wanted_files.Goals as goal

pub returns-in-Some-clause-reads : goal.returns-in-Some-clause-reads
returns-in-Some-clause-reads g c = rw c.in-Some.is c.read_tables.ensures.reads
