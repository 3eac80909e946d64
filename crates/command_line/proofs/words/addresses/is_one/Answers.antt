use Rattle.std.proofs.Common.{arith}
use Rattle.command_line.proofs.AddressLaws.{only_one, two_pieces}
use Rattle.command_line.proofs.words.addresses.is_one.Goals as goal

pub returns-in-Some-clause-more : goal.returns-in-Some-clause-more
returns-in-Some-clause-more c = λ is.
    let cut = c.in-Some.ensures.byte (omega arith) (λ w o h. h) in
    two_pieces c.args.word.now c.in-Some._first.now c.in-Some._more.now cut.0 cut.1 cut.2

pub returns-in-None-clause-one : goal.returns-in-None-clause-one
returns-in-None-clause-one c = λ is. only_one c.args.word.now (c.in-None.ensures.byte (omega arith) (λ w o h. h))
