use Rattle.std.proofs.Common.{length, slice_index, refl, sym, ap, ◌∙◌, inl, inr, arith}
use Rattle.std.proofs.lemmas.Bool.{cases_eq, false≢true}
use Rattle.std.proofs.lemmas.List.{ext_get_or}
use Rattle.place_index.proofs.Materials.Comparing.{read}
use Rattle.place_index.proofs.shape.Shape.has_pieces.Goals as goal

pub returns-then-pieces-codes : goal.returns-then-pieces-codes
returns-then-pieces-codes c = (λ f. absurd (false≢true f), λ e. absurd (c.if-pieces-codes.true (ap length (c.pieces-pieces.ensures.is ∙ e))))

pub returns-then-number-codes : goal.returns-then-number-codes
returns-then-number-codes c = (
  λ f. absurd (false≢true f),
  λ e. absurd (c.if-number-codes.true
      (c.number.ensures.is ∙ read c.pieces-pieces.result.now c.loop-i.i c.index-pieces-i.result c.index-pieces-i.is c.loop-i-test.true ∙ ap (λ xs. slice_index xs c.loop-i.i) (c.pieces-pieces.ensures.is ∙ e))),
)

pub loop-i-preserved : goal.loop-i-preserved
loop-i-preserved c k lt =
    elim (cases_eq k c.loop-i.i) [
      | inl e ↦ rw e
          (ap (λ xs. slice_index xs c.loop-i.i) (sym c.pieces-pieces.ensures.is)
          ∙ sym (read c.pieces-pieces.result.now c.loop-i.i c.index-pieces-i.result c.index-pieces-i.is c.loop-i-test.true)
          ∙ sym c.number.ensures.is ∙ c.if-number-codes.false)
      | inr ne ↦ c.loop-i.invariant k (omega (arith, lt, ne))
    ]

pub returns : goal.returns
returns c = (
  λ f. ext_get_or 0 c.args.self.now.pieces c.args.codes.now (sym (ap length c.pieces-pieces.ensures.is) ∙ c.if-pieces-codes.false)
      (λ k lt. c.loop-i.invariant k (omega (arith, lt, ap length c.pieces-pieces.ensures.is, c.loop-i-test.false))),
  λ e. refl,
)
