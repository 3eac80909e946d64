use Rattle.std.proofs.Common.{◌≢◌, ◌+◌, ◌-◌, ◌∙◌, sym, refl, arith, inl, inr, get_or}
use Rattle.std.proofs.lemmas.Result.{err_from_is_err_and}
use Rattle.pair_dict.proofs.Settling.{has_some, no_reference, more_left, more_right, too_many, put_leaf, put_pair}
use Rattle.pair_dict.proofs.NodeLemmas.{leaf_node, node_put, pair_put}
use Rattle.pair_dict.proofs.counts.+settle.Goals as goal
use Rattle.pair_dict.proofs.counts.+settle.Goals.{count-then-left-counts-via-then-left-counts, count-then-left-counts-via-else-left-counts+then-right-counts}

pub count-returns-then-most-eq0-clause-none : goal.count-returns-then-most-eq0-clause-none
count-returns-then-most-eq0-clause-none t c = λ vs has. omega (arith, has_some has, c.if-most-eq0.true)

pub count-returns-then-left-counts-clause-none : goal.count-returns-then-left-counts-clause-none
count-returns-then-left-counts-clause-none t c = λ vs has. absurd (no_reference c.in-Pair.ensures.is.0 (elim c.then-left-counts.branch [
  | count-then-left-counts-via-then-left-counts w ↦ inl (omega (arith, w.if-left-counts.true, c.in-Pair.ensures.is.1, c.requires.settled.lengths))
  | count-then-left-counts-via-else-left-counts+then-right-counts w ↦ inr (omega (arith, w.if-right-counts.true, c.in-Pair.ensures.is.2, c.requires.settled.lengths))
]) has)

pub count-returns-in_err-settle-in-Pair-clause-none : goal.count-returns-in_err-settle-in-Pair-clause-none
count-returns-in_err-settle-in-Pair-clause-none t c =
    let p = err_from_is_err_and c.from_residual.result c.from_residual.ensures.1 in
    rw (p.1) (λ vs has. omega (arith, more_left (c.args.most - 1) c.in-Pair.ensures.is.0 (rw c.in-Pair.ensures.is.1 at c.in_err-settle-in-Pair.ensures.none) has))

pub count-returns-in_err-settle-in-Pair-2-clause-none : goal.count-returns-in_err-settle-in-Pair-2-clause-none
count-returns-in_err-settle-in-Pair-2-clause-none t c =
    let p = err_from_is_err_and c.from_residual-in_err-settle-in-Pair-2.result c.from_residual-in_err-settle-in-Pair-2.ensures.1 in
    rw (p.1) (λ vs has. omega (arith, more_right (c.args.most - 1) c.in-Pair.ensures.is.0 (rw c.in-Pair.ensures.is.2 at c.in_err-settle-in-Pair-2.ensures.none) has))

pub count-returns-then-count-gt-MOST_VALUES-clause-none : goal.count-returns-then-count-gt-MOST_VALUES-clause-none
count-returns-then-count-gt-MOST_VALUES-clause-none t c = λ vs has.
    let counts = c.settle-in-Pair.new.counts in
    let kept = c.in_ok-settle-in-Pair-2.ensures.kept c.in-Pair.left c.in_ok-settle-in-Pair.ensures.counted in
    let first : get_or counts c.in-Pair.left 0 ≢ 0 = λ z. c.in_ok-settle-in-Pair.ensures.counted (sym kept ∙ z) in
    let more = rw (c.in-Pair.ensures.is.1, c.in-Pair.ensures.is.2) at c.if-count-gt-MOST_VALUES.true in
    omega (
      arith,
      c.requires.few,
      too_many counts c.in_ok-settle-in-Pair-2.ensures.settled c.in-Pair.ensures.is.0
          (rw c.in-Pair.ensures.is.1 at first) (rw c.in-Pair.ensures.is.2 at c.in_ok-settle-in-Pair-2.ensures.counted) more has,
    )

pub count-returns-else-count-gt-MOST_VALUES-clause-settled : goal.count-returns-else-count-gt-MOST_VALUES-clause-settled
count-returns-else-count-gt-MOST_VALUES-clause-settled t c =
    (put_pair c.args.symbols.now c.args.counts.now c.settle.new.counts c.settle-in-Pair.new.counts c.args.symbol c.in-Pair.left c.in-Pair.right
    (get_or c.settle-in-Pair.new.counts c.in-Pair.left 0 + get_or c.settle-in-Pair.new.counts c.in-Pair.right 0)
    c.requires.known c.in-Pair.ensures.is.0 c.in-Pair.ensures.is.1 c.in-Pair.ensures.is.2
    (omega (arith, c.if-left-counts.false, c.requires.settled.lengths)) (omega (arith, c.if-right-counts.false, c.requires.settled.lengths))
    c.in_ok-settle-in-Pair.ensures.kept c.in_ok-settle-in-Pair.ensures.counted c.in_ok-settle-in-Pair-2.ensures.kept c.in_ok-settle-in-Pair-2.ensures.counted
    c.in_ok-settle-in-Pair-2.ensures.settled refl c.if-count-gt-MOST_VALUES.false).settled

pub count-returns-else-count-gt-MOST_VALUES-clause-kept : goal.count-returns-else-count-gt-MOST_VALUES-clause-kept
count-returns-else-count-gt-MOST_VALUES-clause-kept t c =
    (put_pair c.args.symbols.now c.args.counts.now c.settle.new.counts c.settle-in-Pair.new.counts c.args.symbol c.in-Pair.left c.in-Pair.right
    (get_or c.settle-in-Pair.new.counts c.in-Pair.left 0 + get_or c.settle-in-Pair.new.counts c.in-Pair.right 0)
    c.requires.known c.in-Pair.ensures.is.0 c.in-Pair.ensures.is.1 c.in-Pair.ensures.is.2
    (omega (arith, c.if-left-counts.false, c.requires.settled.lengths)) (omega (arith, c.if-right-counts.false, c.requires.settled.lengths))
    c.in_ok-settle-in-Pair.ensures.kept c.in_ok-settle-in-Pair.ensures.counted c.in_ok-settle-in-Pair-2.ensures.kept c.in_ok-settle-in-Pair-2.ensures.counted
    c.in_ok-settle-in-Pair-2.ensures.settled refl c.if-count-gt-MOST_VALUES.false).kept

pub count-returns-else-count-gt-MOST_VALUES-clause-nodes : goal.count-returns-else-count-gt-MOST_VALUES-clause-nodes
count-returns-else-count-gt-MOST_VALUES-clause-nodes t c =
    pair_put c.args.symbols.now c.settle.new.counts c.settle-in-Pair.new.counts c.settle-in-Pair.new.nodes c.args.symbol c.in-Pair.left c.in-Pair.right _
    (get_or c.settle-in-Pair.new.counts c.in-Pair.left 0 + get_or c.settle-in-Pair.new.counts c.in-Pair.right 0) c.joined.result
    c.requires.known c.in-Pair.ensures.is.0 c.in-Pair.ensures.is.1 c.in-Pair.ensures.is.2
    (omega (arith, c.if-left-counts.false, c.requires.settled.lengths)) (omega (arith, c.if-right-counts.false, c.requires.settled.lengths))
    c.in_ok-settle-in-Pair.ensures.counted c.in_ok-settle-in-Pair-2.ensures.kept c.in_ok-settle-in-Pair-2.ensures.counted c.in_ok-settle-in-Pair-2.ensures.settled c.in_ok-settle-in-Pair-2.ensures.nodes refl c.joined.ensures

pub count-returns-in-Leaf-clause-settled : goal.count-returns-in-Leaf-clause-settled
count-returns-in-Leaf-clause-settled t c = (put_leaf c.args.symbols.now c.args.counts.now c.args.symbol c.requires.settled c.requires.known c.in-Leaf.ensures.is.0).settled

pub count-returns-in-Leaf-clause-kept : goal.count-returns-in-Leaf-clause-kept
count-returns-in-Leaf-clause-kept t c = (put_leaf c.args.symbols.now c.args.counts.now c.args.symbol c.requires.settled c.requires.known c.in-Leaf.ensures.is.0).kept

pub count-returns-in-Leaf-clause-counted : goal.count-returns-in-Leaf-clause-counted
count-returns-in-Leaf-clause-counted t c = (put_leaf c.args.symbols.now c.args.counts.now c.args.symbol c.requires.settled c.requires.known c.in-Leaf.ensures.is.0).counted

pub count-returns-in-Leaf-clause-nodes : goal.count-returns-in-Leaf-clause-nodes
count-returns-in-Leaf-clause-nodes t c =
    node_put c.args.symbols.now c.args.counts.now c.args.nodes.now c.args.symbol 1 c.equal.result c.requires.nodes c.requires.known
    (leaf_node c.args.symbols.now c.args.symbol c.in-Leaf.value c.equal.result c.equal.ensures c.in-Leaf.ensures.is.0 c.in-Leaf.ensures.is.1)
