use Rattle.std.proofs.Common.{inl, inr}
use Rattle.std.proofs.lemmas.Result.{err_from_is_err_and}
use Rattle.pair_dict.specs.Inside.Layouts.{pairing_in}
use Rattle.pair_dict.proofs.Chain.{layout_wants_none, layout_fails, without_values, with_all_values}
use Rattle.pair_dict.proofs.ValueCounts.{all_have}
use Rattle.pair_dict.proofs.dictionary.Dictionary.read.Goals as goal

pub returns-in_err-layout-clause-is : goal.returns-in_err-layout-clause-is
returns-in_err-layout-clause-is c =
    let p = err_from_is_err_and c.from_residual.result c.from_residual.ensures.1 in
    rw (p.1, p.2) (layout_fails c.args.bytes.now c.in_err-layout.field-0.0 c.in_err-layout.ensures.is)

pub returns-in_err-settled-clause-is : goal.returns-in_err-settled-clause-is
returns-in_err-settled-clause-is c =
    let p = err_from_is_err_and c.from_residual-in_err-settled.result c.from_residual-in_err-settled.ensures.1 in
    rw (p.1, p.2) (elim c.in_err-settled.ensures.bad [
      | inl memory ↦ rw memory tt
      | inr bad ↦ rw bad.0 (without_values c.args.bytes.now (pairing_in c.in_ok-layout.layout) c.in_ok-layout.ensures.is bad.1)
    ])

pub returns-in_err-layout-clause-memory : goal.returns-in_err-layout-clause-memory
returns-in_err-layout-clause-memory c =
    let p = err_from_is_err_and c.from_residual.result c.from_residual.ensures.1 in
    rw (p.1, p.2) (λ memory. absurd (layout_wants_none c.args.bytes.now c.in_err-layout.field-0.0 c.in_err-layout.ensures.is memory))

pub returns-clause-is : goal.returns-clause-is
returns-clause-is c = rw c.in_ok-dictionary.ensures (with_all_values c.args.bytes.now (pairing_in c.in_ok-layout.layout) c.in_ok-layout.ensures.is c.in_ok-settled.ensures.good)

pub returns-clause-values : goal.returns-clause-values
returns-clause-values c = rw c.in_ok-dictionary.ensures (all_have c.in_ok-layout.layout.symbols.now c.in_ok-settled.ensures.good)
