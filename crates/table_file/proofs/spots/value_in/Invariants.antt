use Rattle.table_file.proofs.spots.value_in.Given as goal

abbrev pub ghosts-value_by : goal.ghosts-value_by
ghosts-value_by a = record { name = a.blank.name; parts = a.blank.parts }
