use Rattle.std.proofs.Common.{sym, arith}
use Rattle.pair_dict.proofs.PlaceLemmas.{further_first, further_code}
use Rattle.pair_dict.proofs.dictionary.Dictionary.skip_code.Goals as goal

pub returns-clause-further : goal.returns-clause-further
returns-clause-further c =
    let d = c.args.self.now in
    let block = c.args.block.now in
    let code = c.in_ok-symbol.ensures in
    further_code d block c.args.from c.args.from c.after.result c.in_ok-symbol.symbol c.in_ok-symbol.length c.values-skipped.result (further_first d block c.args.from c.requires.at) (sym code.is) code.sound.some code.sound.short
    c.values-skipped.ensures.some c.values-skipped.ensures.is (omega (arith, c.if-from-skipped.false)) code.sound.within c.after.ensures.at c.after.ensures.left
