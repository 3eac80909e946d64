use Rattle.std.proofs.Common.{ℕ, ◌++◌, List, ap, ◌∙◌}
use Rattle.table_file.proofs.Planned.{on_ok}
use Rattle.table_file.proofs.forging.values.push_values.Goals as goal

pub returns : goal.returns
returns c =
    let h = c.requires.values c.args.symbol c.requires.known in
    on_ok c.push_symbol.result c.push_symbol.ensures (λ pushed.
    pushed h.0 h.1 ∙ ap (λ (xs : List ℕ). c.args.values.now.items ++ xs) (c.values_are_computed.ensures c.args.symbols.now c.args.symbol h.0 h.1 h.2))
