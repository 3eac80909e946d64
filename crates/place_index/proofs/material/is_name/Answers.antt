use Rattle.std.proofs.Common.{length, get_or, refl, sym, ap, ◌∙◌, inl, inr, arith}
use Rattle.std.proofs.lemmas.Bool.{cases_eq, false≢true}
use Rattle.std.proofs.lemmas.List.{ext_get_or}
use Rattle.place_index.specs.Material.{name_at}
use Rattle.place_index.proofs.material.is_name.Goals as goal

pub returns-then-text-length : goal.returns-then-text-length
returns-then-text-length c = (λ f. absurd (false≢true f), λ e. absurd (c.if-text-length.true (ap length (sym e) ∙ sym c.name_length-length.ensures.is)))

pub returns-then-text-i : goal.returns-then-text-i
returns-then-text-i c = (λ f. absurd (false≢true f), λ e. absurd (c.if-text-i.true (ap (λ l. get_or l c.loop-i.i 0) (sym e) ∙ sym c.letter-wanted.ensures.is)))

pub loop-i-preserved : goal.loop-i-preserved
loop-i-preserved c k lt =
    elim (cases_eq k c.loop-i.i) [
      | inl e ↦ rw e (sym c.letter-wanted.ensures.is ∙ sym c.if-text-i.false)
      | inr ne ↦ c.loop-i.invariant k (omega (arith, lt, ne))
    ]

pub returns : goal.returns
returns c = (
  λ f. ext_get_or 0 (name_at c.args.material) c.args.text.now (sym c.name_length-length.ensures.is ∙ sym c.if-text-length.false)
      (λ k lt. c.loop-i.invariant k (omega (arith, lt, c.name_length-length.ensures.is, c.loop-i-test.false))),
  λ e. refl,
)
