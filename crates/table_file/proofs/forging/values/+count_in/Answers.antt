use Rattle.std.proofs.Common.{ℕ, length, arith, sym, ap, subst, ◌∙◌}
use Rattle.std.proofs.lemmas.List.{length-append}
use Rattle.pair_dict.specs.Symbols.{HasSymbolValues}
use Rattle.table_file.proofs.Counting.{one_value, halves_of}
use Rattle.table_file.proofs.forging.values.+count_in.Goals as goal

pub returns-then-second-eq4095-clause-is : goal.returns-then-second-eq4095-clause-is
returns-then-second-eq4095-clause-is t c = λ vs h. sym (ap length (one_value c.args.symbols.now c.args.symbol vs h (sym c.right-second.ensures ∙ c.if-second-eq4095.true)))

pub overflow_sub-most : goal.overflow_sub-most
overflow_sub-most t c =
    let h = halves_of c.args.symbols.now c.args.symbol c.requires.values.0 c.requires.values.1 (λ e. c.if-second-eq4095.false (c.right-second.ensures ∙ e)) in
    omega (arith, length-append h.first h.second, ap length h.both, h.first_some, c.requires.values.2)

pub count_in-requires : goal.count_in-requires
count_in-requires t c =
    let h = halves_of c.args.symbols.now c.args.symbol c.requires.values.0 c.requires.values.1 (λ e. c.if-second-eq4095.false (c.right-second.ensures ∙ e)) in
    let long = length-append h.first h.second in
    let both = ap length h.both in
    (omega (arith, c.decreases, long, both, h.first_some, c.requires.values.2), (omega (arith, c.requires.few), (h.first, subst (λ (s : ℕ). HasSymbolValues c.args.symbols.now s h.first) (sym c.left-first.ensures) h.first_has, omega (arith, long, both, h.second_some, c.requires.values.2))))

pub overflow_sub-most-2 : goal.overflow_sub-most-2
overflow_sub-most-2 t c =
    let h = halves_of c.args.symbols.now c.args.symbol c.requires.values.0 c.requires.values.1 (λ e. c.if-second-eq4095.false (c.right-second.ensures ∙ e)) in
    omega (arith, length-append h.first h.second, ap length h.both, h.first_some, c.requires.values.2)

pub count_in-requires-2 : goal.count_in-requires-2
count_in-requires-2 t c =
    let h = halves_of c.args.symbols.now c.args.symbol c.requires.values.0 c.requires.values.1 (λ e. c.if-second-eq4095.false (c.right-second.ensures ∙ e)) in
    let long = length-append h.first h.second in
    let both = ap length h.both in
    (omega (arith, c.decreases, long, both, h.first_some, c.requires.values.2), (omega (arith, c.requires.few), (h.second, subst (λ (s : ℕ). HasSymbolValues c.args.symbols.now s h.second) (sym c.right-second.ensures) h.second_has, omega (arith, long, both, h.first_some, c.requires.values.2))))

pub returns-clause-is : goal.returns-clause-is
returns-clause-is t c = λ vs has.
    let h = halves_of c.args.symbols.now c.args.symbol vs has (λ e. c.if-second-eq4095.false (c.right-second.ensures ∙ e)) in
    let a = c.count_in.ensures.is h.first (subst (λ (s : ℕ). HasSymbolValues c.args.symbols.now s h.first) (sym c.left-first.ensures) h.first_has) in
    let b = c.count_in-2.ensures.is h.second (subst (λ (s : ℕ). HasSymbolValues c.args.symbols.now s h.second) (sym c.right-second.ensures) h.second_has) in
    omega (arith, a, b, length-append h.first h.second, ap length h.both)

pub returns-clause-few : goal.returns-clause-few
returns-clause-few t c =
    let h = halves_of c.args.symbols.now c.args.symbol c.requires.values.0 c.requires.values.1 (λ e. c.if-second-eq4095.false (c.right-second.ensures ∙ e)) in
    let a = c.count_in.ensures.is h.first (subst (λ (s : ℕ). HasSymbolValues c.args.symbols.now s h.first) (sym c.left-first.ensures) h.first_has) in
    let b = c.count_in-2.ensures.is h.second (subst (λ (s : ℕ). HasSymbolValues c.args.symbols.now s h.second) (sym c.right-second.ensures) h.second_has) in
    omega (arith, a, b, length-append h.first h.second, ap length h.both, c.requires.values.2)
