use Rattle.judge_core.proofs.reading.spot_of.Given as goal

abbrev pub ghosts-spot_by : goal.ghosts-spot_by
ghosts-spot_by a = record { name = a.blank.name; parts = a.blank.parts }
