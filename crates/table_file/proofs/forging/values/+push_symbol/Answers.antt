use Rattle.std.proofs.Common.{ℕ, ◌++◌, List, [], ◌∷◌, length, arith, sym, ap, subst, ◌∙◌, append_assoc}
use Rattle.std.proofs.lemmas.List.{length-append}
use Rattle.pair_dict.specs.Symbols.{HasSymbolValues}
use Rattle.table_file.proofs.Counting.{one_value, halves_of}
use Rattle.table_file.proofs.Planned.{on_ok}
use Rattle.table_file.proofs.forging.values.+push_symbol.Goals as goal

pub returns-then-second-eq4095 : goal.returns-then-second-eq4095
returns-then-second-eq4095 t c = λ vs h.
    let one = one_value c.args.symbols.now c.args.symbol vs h (sym c.right-second.ensures ∙ c.if-second-eq4095.true) in
    c.in_ok-push.ensures.items ∙ ap (λ (xs : List ℕ). c.args.values.now.items ++ xs) (ap (λ (x : ℕ). x ∷ []) c.left-first.ensures ∙ sym one)

pub overflow_sub-most : goal.overflow_sub-most
overflow_sub-most t c =
    let h = halves_of c.args.symbols.now c.args.symbol c.requires.values.0 c.requires.values.1 (λ e. c.if-second-eq4095.false (c.right-second.ensures ∙ e)) in
    omega (arith, length-append h.first h.second, ap length h.both, h.first_some, c.requires.values.2)

pub push_symbol-requires : goal.push_symbol-requires
push_symbol-requires t c =
    let h = halves_of c.args.symbols.now c.args.symbol c.requires.values.0 c.requires.values.1 (λ e. c.if-second-eq4095.false (c.right-second.ensures ∙ e)) in
    let long = length-append h.first h.second in
    let both = ap length h.both in
    (omega (arith, c.decreases, long, both, h.first_some, c.requires.values.2), (omega (arith, c.requires.few), (h.first, subst (λ (s : ℕ). HasSymbolValues c.args.symbols.now s h.first) (sym c.left-first.ensures) h.first_has, omega (arith, long, both, h.second_some, c.requires.values.2))))

pub overflow_sub-most-2 : goal.overflow_sub-most-2
overflow_sub-most-2 t c =
    let h = halves_of c.args.symbols.now c.args.symbol c.requires.values.0 c.requires.values.1 (λ e. c.if-second-eq4095.false (c.right-second.ensures ∙ e)) in
    omega (arith, length-append h.first h.second, ap length h.both, h.first_some, c.requires.values.2)

pub push_symbol-requires-2 : goal.push_symbol-requires-2
push_symbol-requires-2 t c =
    let h = halves_of c.args.symbols.now c.args.symbol c.requires.values.0 c.requires.values.1 (λ e. c.if-second-eq4095.false (c.right-second.ensures ∙ e)) in
    let long = length-append h.first h.second in
    let both = ap length h.both in
    (omega (arith, c.decreases, long, both, h.first_some, c.requires.values.2), (omega (arith, c.requires.few), (h.second, subst (λ (s : ℕ). HasSymbolValues c.args.symbols.now s h.second) (sym c.right-second.ensures) h.second_has, omega (arith, long, both, h.first_some, c.requires.values.2))))

pub returns : goal.returns
returns t c = on_ok c.push_symbol-2.result c.push_symbol-2.ensures (λ both vs has.
    let h = halves_of c.args.symbols.now c.args.symbol vs has (λ e. c.if-second-eq4095.false (c.right-second.ensures ∙ e)) in
    let a = c.in_ok-push_symbol.ensures h.first (subst (λ (s : ℕ). HasSymbolValues c.args.symbols.now s h.first) (sym c.left-first.ensures) h.first_has) in
    let b = both h.second (subst (λ (s : ℕ). HasSymbolValues c.args.symbols.now s h.second) (sym c.right-second.ensures) h.second_has) in
    b ∙ ap (λ (xs : List ℕ). xs ++ h.second) a ∙ append_assoc c.args.values.now.items h.first h.second ∙ ap (λ (xs : List ℕ). c.args.values.now.items ++ xs) (sym h.both))
