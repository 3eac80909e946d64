use Rattle.table_file.proofs.forging.values.+count_in.Given as goal

abbrev pub decreases-count_in : goal.decreases-count_in
decreases-count_in l = l.most
