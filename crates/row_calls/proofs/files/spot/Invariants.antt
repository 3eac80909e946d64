use Rattle.row_calls.proofs.files.spot.Given as goal

abbrev pub ghosts-spot_by : goal.ghosts-spot_by
ghosts-spot_by a = record { name = a.blank.name; parts = a.blank.parts }
