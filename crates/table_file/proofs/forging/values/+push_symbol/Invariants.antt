use Rattle.table_file.proofs.forging.values.+push_symbol.Given as goal

abbrev pub decreases-push_symbol : goal.decreases-push_symbol
decreases-push_symbol l = l.most
