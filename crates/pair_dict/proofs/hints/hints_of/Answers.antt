use Rattle.std.proofs.Common.{ap, length, [], ◌∷◌, arith}
use Rattle.std.proofs.lemmas.List.{length-append}
use Rattle.pair_dict.proofs.NodeLemmas.{hint_more}
use Rattle.pair_dict.proofs.hints.hints_of.Goals as goal

pub loop-prefix-preserved : goal.loop-prefix-preserved
loop-prefix-preserved c =
    let i = c.loop-prefix.invariant in
    let items = c.in_ok-push.ensures.items in
    record {
      all = omega (arith, ap length items, length-append c.loop-prefix.bytes.items (c.hint.result ∷ []), i.all);
      each = λ k lt. rw items (hint_more c.args.firsts.now c.loop-prefix.bytes.items c.loop-prefix.prefix c.hint.result i.all i.each c.hint.ensures k lt);
    }
