use Rattle.table_file.proofs.steps.size_at.Given as goal

abbrev pub ghosts-size_by : goal.ghosts-size_by
ghosts-size_by a = record { name = a.blank.name; parts = a.blank.parts }
