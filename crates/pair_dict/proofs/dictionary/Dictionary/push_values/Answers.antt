use Rattle.std.proofs.Common.{◌∙◌, sym, ap, refl, arith, rules, [], ◌∷◌, ℕ}
use Rattle.std.proofs.lemmas.List.{length-set}
use Rattle.pair_dict.proofs.SymbolValues.{joined_at, values_of_leaf}
use Rattle.pair_dict.proofs.Pending.{pending_first, pending_top, pending_pair, pending_pair_length, pending_next, pending_next_length, pending_last}
use Rattle.pair_dict.specs.Inside.Nodes.{counts_in}
use Rattle.pair_dict.proofs.dictionary.Dictionary.push_values.Goals as goal

pub values-init : goal.values-init
values-init c = record {
  pending = pending_first c.self.inside.symbols.now (counts_in c.self.inside.bytes.items) c.self.invariant.counts c.args.limit c.args.values.now.items c.args.symbol c.args.waiting.now
      (rw (← c.self.view_is) at c.requires.known) (omega (arith, c.requires.within, c.args.values.now.ok.0));
  places = search rules;
  grown = omega arith;
  room = refl;
}

pub returns-then-top-eq0-clause-is : goal.returns-then-top-eq0-clause-is
returns-then-top-eq0-clause-is c =
    let symbols = c.self.inside.symbols.now in
    let p = rw c.if-top-eq0.true at c.values.invariant.pending in
    let one = values_of_leaf symbols (counts_in c.self.inside.bytes.items) c.self.invariant.counts c.values.symbol c.in-Leaf.ensures.is.0 ∙ ap (λ (v : ℕ). v ∷ []) (sym c.in-Leaf.ensures.is.1) in
    rw (c.push_reserved.ensures.items, ← c.self.view_is) (pending_last symbols c.args.limit c.values.values.items _ c.values.symbol c.in-Leaf.value c.values.waiting one (omega (arith, c.values-test.true, c.len.ensures, c.values.values.ok.0)) p)

pub values-smaller-in-Leaf : goal.values-smaller-in-Leaf
values-smaller-in-Leaf c =
    let symbols = c.self.inside.symbols.now in
    let p = c.values.invariant.pending in
    let one = values_of_leaf symbols (counts_in c.self.inside.bytes.items) c.self.invariant.counts c.values.symbol c.in-Leaf.ensures.is.0 ∙ ap (λ (v : ℕ). v ∷ []) (sym c.in-Leaf.ensures.is.1) in
    let top = pending_top symbols (counts_in c.self.inside.bytes.items) c.self.invariant.counts c.args.limit c.values.values.items _ c.values.symbol c.values.top c.values.waiting p in
    omega (arith, top, c.if-top-eq0.false, pending_next_length symbols c.values.symbol c.in-Leaf.value c.values.top c.values.waiting one (omega (arith, c.if-top-eq0.false)) p.places)

pub values-preserved-in-Leaf : goal.values-preserved-in-Leaf
values-preserved-in-Leaf c =
    let symbols = c.self.inside.symbols.now in
    let one = values_of_leaf symbols (counts_in c.self.inside.bytes.items) c.self.invariant.counts c.values.symbol c.in-Leaf.ensures.is.0 ∙ ap (λ (v : ℕ). v ∷ []) (sym c.in-Leaf.ensures.is.1) in
    record {
      pending = rw c.push_reserved.ensures.items (pending_next symbols c.args.limit c.values.values.items _ c.values.symbol c.in-Leaf.value c.values.top c.values.waiting one (omega (arith, c.if-top-eq0.false))
          (omega (arith, c.values-test.true, c.len.ensures, c.values.values.ok.0)) c.values.invariant.pending);
      places = c.values.invariant.places;
      grown = omega (arith, c.push_reserved.ensures.len, c.values.invariant.grown);
      room = c.push_reserved.ensures.capacity ∙ c.values.invariant.room;
    }

pub bounds-waiting-top-in-Pair : goal.bounds-waiting-top-in-Pair
bounds-waiting-top-in-Pair c = omega (arith, c.values.invariant.pending.few, pending_top c.self.inside.symbols.now (counts_in c.self.inside.bytes.items) c.self.invariant.counts c.args.limit c.values.values.items _ c.values.symbol c.values.top c.values.waiting c.values.invariant.pending)

pub values-smaller : goal.values-smaller
values-smaller c =
    let symbols = c.self.inside.symbols.now in
    let p = c.values.invariant.pending in
    let j = joined_at symbols (counts_in c.self.inside.bytes.items) c.self.invariant.counts c.values.symbol c.in-Pair.left c.in-Pair.right p.known c.in-Pair.ensures.is.1 c.in-Pair.ensures.is.2 (λ e. c.in-Pair.ensures.is.0 (sym c.in-Pair.ensures.is.2 ∙ e)) in
    let top = pending_top symbols (counts_in c.self.inside.bytes.items) c.self.invariant.counts c.args.limit c.values.values.items _ c.values.symbol c.values.top c.values.waiting p in
    omega (arith, top, pending_pair_length symbols c.values.symbol c.values.top c.in-Pair.left c.in-Pair.right c.values.waiting j (omega (arith, top, p.few, c.values.invariant.places)))

pub values-preserved : goal.values-preserved
values-preserved c =
    let symbols = c.self.inside.symbols.now in
    let p = c.values.invariant.pending in
    let j = joined_at symbols (counts_in c.self.inside.bytes.items) c.self.invariant.counts c.values.symbol c.in-Pair.left c.in-Pair.right p.known c.in-Pair.ensures.is.1 c.in-Pair.ensures.is.2 (λ e. c.in-Pair.ensures.is.0 (sym c.in-Pair.ensures.is.2 ∙ e)) in
    let top = pending_top symbols (counts_in c.self.inside.bytes.items) c.self.invariant.counts c.args.limit c.values.values.items _ c.values.symbol c.values.top c.values.waiting p in
    let len = length-set c.values.waiting c.values.top c.in-Pair.right in
    record {
      pending = pending_pair symbols c.args.limit c.values.values.items _ c.values.symbol c.values.top c.in-Pair.left c.in-Pair.right c.values.waiting j
          (omega (arith, top, p.few, c.values.invariant.places)) p len;
      places = len ∙ c.values.invariant.places;
      grown = c.values.invariant.grown;
      room = c.values.invariant.room;
    }
