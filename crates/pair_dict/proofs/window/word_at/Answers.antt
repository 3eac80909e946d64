use Rattle.std.proofs.Common.{drop, length, ◌≤◌, arith, ◌∙◌}
use Rattle.std.proofs.lemmas.List.{take_rest, length-drop}
use Rattle.pair_dict.proofs.Numbers.{IsBytes-drop, big_from_is, word_long}
use Rattle.pair_dict.proofs.window.word_at.Goals as goal

pub returns : goal.returns
returns c =
    let rest = drop c.args.place c.args.block.now in
    let long : 8 ≤ length rest = omega (arith, length-drop c.args.place c.args.block.now, c.requires) in
    word_long rest c.read_u64.result (IsBytes-drop c.args.place c.args.block.now (λ i. omega (arith, c.type_inv.block i))) long ((rw (take_rest c.args.block.now c.args.place) at c.read_u64.ensures) ∙ big_from_is 8 0 rest long)
