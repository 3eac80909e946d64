use Rattle.std.proofs.Common.{◌≡◌, slice_index, refl, sym, ap, subst, ◌∙◌, inl, inr, arith}
use Rattle.std.proofs.lemmas.Bool.{cases_eq, false≢true}
use Rattle.std.proofs.lemmas.List.{get_or_default}
use Rattle.place_index.specs.Material.{pieces_of, count_of}
use Rattle.place_index.proofs.Materials.Arranging.{arranged_length, count_arranged, arranged_by_own, place_of_code}
use Rattle.place_index.proofs.arrangement.is_arrangement.Goals as goal

pub returns-then-pieces-men : goal.returns-then-pieces-men
returns-then-pieces-men c = (
  λ f. absurd (false≢true f),
  λ p. absurd (c.if-pieces-men.true (arranged_length c.args.pieces.now (pieces_of c.args.material) p ∙ sym c.men.ensures.is)),
)

pub returns-then-occurrences-count : goal.returns-then-occurrences-count
returns-then-occurrences-count c = (
  λ f. absurd (false≢true f),
  λ p. absurd (c.if-occurrences-count.true (c.occurrences.ensures ∙ count_arranged c.args.pieces.now (pieces_of c.args.material) c.piece-item.result p ∙ sym c.count.ensures.is)),
)

pub loop-piece-preserved : goal.loop-piece-preserved
loop-piece-preserved c k lt =
    elim (cases_eq k c.loop-piece.piece-index) [
      | inl e ↦ subst (λ x. count_of c.args.pieces.now x ≡ count_of (pieces_of c.args.material) x)
          (c.piece-item.is ∙ get_or_default c.args.pieces.now c.loop-piece.piece-index c.piece-item.result 0 c.loop-piece-test.true ∙ ap (slice_index c.args.pieces.now) (sym e))
          (sym c.occurrences.ensures ∙ c.if-occurrences-count.false ∙ c.count.ensures.is)
      | inr ne ↦ c.loop-piece.invariant k (omega (arith, lt, ne))
    ]

pub returns : goal.returns
returns c = (
  λ t. arranged_by_own c.args.pieces.now (pieces_of c.args.material) (c.if-pieces-men.false ∙ c.men.ensures.is)
      (λ x some.
      let at = place_of_code c.args.pieces.now x some in
      subst (λ y. count_of c.args.pieces.now y ≡ count_of (pieces_of c.args.material) y) at.2 (c.loop-piece.invariant at.0 (omega (arith, at.1, c.loop-piece-test.false)))),
  λ p. refl,
)
