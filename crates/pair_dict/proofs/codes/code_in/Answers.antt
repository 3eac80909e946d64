use Rattle.std.proofs.Common.{sym, ◌∙◌, arith}
use Rattle.pair_dict.proofs.FirstLemmas.{front_of_window}
use Rattle.pair_dict.proofs.CodeLemmas.{below_yes, below_no}
use Rattle.pair_dict.proofs.codes.code_in.Goals as goal

pub returns-then-length-room_at-clause-is : goal.returns-then-length-room_at-clause-is
returns-then-length-room_at-clause-is c =
    let n = c.code_of-symbol.result.1 in
    sym (c.code_of-symbol.ensures.past c.args.block.now c.args.at (front_of_window c.args.block.now c.args.at c.window.result c.window.ensures)
    (c.room_at.ensures.past n (omega (arith, c.code_of-symbol.ensures.short)) c.if-length-room_at.true))

pub returns-then-symbol-search-clause-is : goal.returns-then-symbol-search-clause-is
returns-then-symbol-search-clause-is c =
    let code = c.code_of-symbol.result in
    sym (c.code_of-symbol.ensures.is c.args.block.now c.args.at (front_of_window c.args.block.now c.args.at c.window.result c.window.ensures) (c.room_at.ensures.fits code.1 c.if-length-room_at.false)
    ∙ below_yes c.args.search.symbols code.0 code.1 c.if-symbol-search.true)

pub returns-else-symbol-search-clause-is : goal.returns-else-symbol-search-clause-is
returns-else-symbol-search-clause-is c =
    let code = c.code_of-symbol.result in
    sym (c.code_of-symbol.ensures.is c.args.block.now c.args.at (front_of_window c.args.block.now c.args.at c.window.result c.window.ensures) (c.room_at.ensures.fits code.1 c.if-length-room_at.false)
    ∙ below_no c.args.search.symbols code.0 code.1 c.if-symbol-search.false)
