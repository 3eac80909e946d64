use Rattle.table_file.proofs.sparse.fits_in.Goals as goal

pub returns-in-Pairs : goal.returns-in-Pairs
returns-in-Pairs c = rw c.in-Pairs.is (rw (c.span.ensures.is, c.points-n.ensures.is) at c.are_entries.ensures)
