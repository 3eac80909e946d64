use Rattle.std.proofs.Common.{refl}
use Rattle.table_file.proofs.outcome.counts_moves.Goals as goal

pub returns-in-Win : goal.returns-in-Win
returns-in-Win c = rw (c.in-Win.is, c.has_bit.ensures) refl

pub returns-in-Loss : goal.returns-in-Loss
returns-in-Loss c = rw (c.in-Loss.is, c.has_bit-in-Loss.ensures) refl
