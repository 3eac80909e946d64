use Rattle.move_notation.proofs.words_in_turn.played.Goals as goal

pub returns-in_default-clause-none : goal.returns-in_default-clause-none
returns-in_default-clause-none c = λ m reads. c.in_default.not-Ok m (c.read_san-read.ensures.only m reads)

pub unreachable-requires : goal.unreachable-requires
unreachable-requires c =
    let reads = rw c.in-Ok.is at c.read_san-read.ensures.ok in
    let legal = reads.meant.0 in
    let none = c.in-None.ensures.only legal.0 legal.1 in
    absurd cc
