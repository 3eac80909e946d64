use Rattle.std.proofs.Common.{◌≡◌, ◌/◌, ◌∙◌, ℕ, List, length, replicate, sym, ap, arith, rules, inr, get_or}
use Rattle.std.proofs.lemmas.List.{length-replicate}
use Rattle.std.proofs.lemmas.Result.{err_from_is_err_and}
use Rattle.pair_dict.proofs.Settling.{all_counted, settled_first, settled_more}
use Rattle.pair_dict.proofs.NodeLemmas.{nodes_first, nodes_more, all_nodes}
use Rattle.pair_dict.proofs.SymbolValues.{all_have}
use Rattle.pair_dict.proofs.ValueCounts.{have_all, one_without}
use Rattle.pair_dict.proofs.WordLemmas.{zeros}
use Rattle.pair_dict.proofs.counts.settle_all.Goals as goal

pub loop-symbol-init : goal.loop-symbol-init
loop-symbol-init c =
    let n = length c.args.symbols.now / 3 in
    let e : c.in_ok-counts.counts.items ≡ replicate n 0 = search rules in
    let f : c.in_ok-nodes.nodes.items ≡ replicate n c.none.result = search rules in
    let none : (k : ℕ) → get_or c.in_ok-counts.counts.items k 0 ≡ 0 = λ k. ap (λ (xs : List ℕ). get_or xs k 0) e ∙ zeros n k in
    record {
      settled = settled_first c.args.symbols.now c.in_ok-counts.counts.items (ap length e ∙ length-replicate n 0) none;
      nodes = nodes_first c.args.symbols.now c.in_ok-counts.counts.items c.in_ok-nodes.nodes.items (ap length f ∙ length-replicate n c.none.result) none;
      known = λ s lt. absurd (omega arith);
    }

pub returns-in_err-settle-clause-bad : goal.returns-in_err-settle-clause-bad
returns-in_err-settle-clause-bad c =
    let p = err_from_is_err_and c.from_residual-in_err-settle.result c.from_residual-in_err-settle.ensures.1 in
    rw (p.1, p.2) (inr (c.in_err-settle.ensures.fault, one_without c.args.symbols.now c.loop-symbol.symbol c.loop-symbol-test.true c.in_err-settle.ensures.none))

pub returns-clause-good : goal.returns-clause-good
returns-clause-good c =
    let symbols = c.args.symbols.now in
    let h = c.loop-symbol.invariant in
    have_all symbols (all_have symbols c.loop-symbol.counts.items (all_counted symbols c.loop-symbol.counts.items h.settled (λ s lt. h.known s (omega (arith, lt, c.loop-symbol-test.false)))))

pub settle-requires-clause-nodes : goal.settle-requires-clause-nodes
settle-requires-clause-nodes c = rw (c.deref_mut.ensures.value, c.deref_mut-in-loop-symbol.ensures.value) c.loop-symbol.invariant.nodes

pub returns-clause-nodes : goal.returns-clause-nodes
returns-clause-nodes c =
    let symbols = c.args.symbols.now in
    let h = c.loop-symbol.invariant in
    all_nodes symbols c.loop-symbol.counts.items c.loop-symbol.nodes.items h.nodes (λ s lt. h.known s (omega (arith, lt, c.loop-symbol-test.false)))

pub loop-symbol-preserved : goal.loop-symbol-preserved
loop-symbol-preserved c =
    let old = c.loop-symbol.invariant in
    let new = c.in_ok-settle.ensures in
    let h = settled_more c.args.symbols.now c.loop-symbol.counts.items c.deref_mut.result.now c.settle.new.counts _ c.loop-symbol.counts.len c.loop-symbol.symbol
    (c.loop-symbol.counts.ok.0 ∙ old.settled.lengths ∙ sym new.settled.lengths) c.deref_mut.ensures.value new.settled new.kept new.counted old.known in
    record {
      settled = h.settled;
      nodes = nodes_more c.args.symbols.now c.settle.new.counts _ c.settle.new.nodes _ c.loop-symbol.counts.len c.loop-symbol.nodes.len
          (c.loop-symbol.counts.ok.0 ∙ old.settled.lengths ∙ sym new.settled.lengths) (c.loop-symbol.nodes.ok.0 ∙ old.nodes.lengths ∙ sym new.nodes.lengths) new.nodes;
      known = h.known;
    }
