use Rattle.table_file.proofs.forging.layout.laid_blocks.Goals as goal

pub padded_lengths-requires-clause-values : goal.padded_lengths-requires-clause-values
padded_lengths-requires-clause-values c = rw c.requires.symbols (c.in_ok-have_values.ensures.0 c.if-not-branch.false)
