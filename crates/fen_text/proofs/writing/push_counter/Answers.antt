use Rattle.std.proofs.Common.{rules, arith, lit<}
use Rattle.std.proofs.lemmas.Fmt.{length-decimal-le}
use Rattle.fen_text.proofs.writing.push_counter.Goals as goal

pub push_str-requires : goal.push_str-requires
push_str-requires c =
    let short = length-decimal-le 4 c.args.number (lit< tt) (omega arith) (omega arith) in
    search (rules, short)

pub returns-clause-len : goal.returns-clause-len
returns-clause-len c =
    let short = length-decimal-le 4 c.args.number (lit< tt) (omega arith) (omega arith) in
    search (rules, short)
