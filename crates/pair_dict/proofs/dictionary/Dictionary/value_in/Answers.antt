use Rattle.std.proofs.Common.{◌<◌, ◌≤◌, refl, sym, ◌∙◌, arith, get_or}
use Rattle.pair_dict.specs.Inside.Nodes.{counts_in}
use Rattle.pair_dict.specs.Inside.Words.{nodes_in}
use Rattle.pair_dict.proofs.NodeLemmas.{value_equal, pair_here, skipped_is}
use Rattle.pair_dict.proofs.SymbolValues.{length-values_of, value_left, value_right, pair_at}
use Rattle.pair_dict.proofs.dictionary.Dictionary.value_in.Goals as goal

pub down-init : goal.down-init
down-init c =
    let symbols = c.self.inside.symbols.now in
    let lt = rw (← c.self.view_is) at c.requires.known in
    record {
      known = lt;
      within = rw (length-values_of symbols (counts_in c.self.inside.bytes.items) c.self.invariant.counts c.args.symbol lt) at (rw (← c.self.view_is) at c.requires.within);
      same = refl;
    }

pub returns-in-Equal : goal.returns-in-Equal
returns-in-Equal c =
    let symbols = c.self.inside.symbols.now in
    let i = c.self.invariant in
    rw (← c.self.view_is) (value_equal symbols (counts_in c.self.inside.bytes.items) i.counts (nodes_in c.self.inside.search.lengths c.self.inside.words.items) i.nodes c.down.symbol c.down.invariant.known c.node_at.result (rw c.deref.ensures.value at c.node_at.ensures)
    c.in-Equal.value c.down.left c.in-Equal.ensures c.down.invariant.within ∙ c.down.invariant.same)

pub down-preserved-then-left-skipped : goal.down-preserved-then-left-skipped
down-preserved-then-left-skipped c =
    let symbols = c.self.inside.symbols.now in
    let counts = counts_in c.self.inside.bytes.items in
    let i = c.self.invariant in
    let s = c.down.symbol in
    let lt = c.down.invariant.known in
    let two = pair_here symbols counts i.counts (nodes_in c.self.inside.search.lengths c.self.inside.words.items) i.nodes s lt c.node_at.result (rw c.deref.ensures.value at c.node_at.ensures) c.in-Pair.first c.in-Pair.second c.in-Pair.skipped c.in-Pair.ensures in
    let skipped = skipped_is symbols counts i.counts (nodes_in c.self.inside.search.lengths c.self.inside.words.items) i.nodes s lt c.node_at.result (rw c.deref.ensures.value at c.node_at.ensures) c.in-Pair.first c.in-Pair.second c.in-Pair.skipped two in
    let within : c.down.left < get_or counts c.in-Pair.first 0 = omega (arith, skipped, c.if-left-skipped.true) in
    record {
      known = rw two.left_is (pair_at symbols counts i.counts s lt two.is_pair).left_known;
      within = within;
      same = rw two.left_is (sym (value_left symbols counts i.counts s c.down.left lt two.is_pair (rw two.left_is at within)) ∙ c.down.invariant.same);
    }

pub down-preserved : goal.down-preserved
down-preserved c =
    let symbols = c.self.inside.symbols.now in
    let counts = counts_in c.self.inside.bytes.items in
    let i = c.self.invariant in
    let s = c.down.symbol in
    let lt = c.down.invariant.known in
    let two = pair_here symbols counts i.counts (nodes_in c.self.inside.search.lengths c.self.inside.words.items) i.nodes s lt c.node_at.result (rw c.deref.ensures.value at c.node_at.ensures) c.in-Pair.first c.in-Pair.second c.in-Pair.skipped c.in-Pair.ensures in
    let skipped = skipped_is symbols counts i.counts (nodes_in c.self.inside.search.lengths c.self.inside.words.items) i.nodes s lt c.node_at.result (rw c.deref.ensures.value at c.node_at.ensures) c.in-Pair.first c.in-Pair.second c.in-Pair.skipped two in
    let le : get_or counts c.in-Pair.first 0 ≤ c.down.left = omega (arith, skipped, c.if-left-skipped.false) in
    let pair = pair_at symbols counts i.counts s lt two.is_pair in
    let both = rw (← two.left_is, ← two.right_is) at pair.both in
    record {
      known = rw two.right_is pair.right_known;
      within = omega (arith, skipped, both, c.down.invariant.within);
      same = rw (skipped, two.left_is, two.right_is) (sym (value_right symbols counts i.counts s c.down.left lt two.is_pair (rw two.left_is at le)) ∙ c.down.invariant.same);
    }
