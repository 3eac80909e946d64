use Rattle.std.proofs.Common.{drop, length, ◌<◌, arith}
use Rattle.std.proofs.lemmas.List.{take_rest, length-drop}
use Rattle.pair_dict.proofs.Numbers.{IsBytes-drop, word_short}
use Rattle.pair_dict.proofs.window.last_word_at.Goals as goal

pub returns : goal.returns
returns c =
    let rest = drop c.args.place c.args.block.now in
    let short : length rest < 8 = omega (arith, length-drop c.args.place c.args.block.now, c.requires.few) in
    word_short rest c.short_word.result (IsBytes-drop c.args.place c.args.block.now (λ i. omega (arith, c.type_inv.block i))) short (rw (take_rest c.args.block.now c.args.place) at c.short_word.ensures)
