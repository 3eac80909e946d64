use Rattle.std.proofs.Common.{◌≡◌, ◌∙◌, ap, slice_index, subst, true, arith}
use Rattle.place_index.specs.Men.{stands}
use Rattle.place_index.specs.Pawns.{pawn_square, pawn_numbers_of}
use Rattle.place_index.proofs.Turns.TurnedMen.{are_men, lead_range, lead_number_few, lead_pawn_is}
use Rattle.place_index.proofs.turning.lead_pawn.Goals as goal

pub greatest_number-greatest-requires-clause-men : goal.greatest_number-greatest-requires-clause-men
greatest_number-greatest-requires-clause-men c = are_men c.args.material c.args.men.now c.leading_pawn-code.ensures.known c.requires.placed

pub greatest_number-greatest-requires-clause-pawns : goal.greatest_number-greatest-requires-clause-pawns
greatest_number-greatest-requires-clause-pawns c s h = lead_range c.args.material c.args.men.now c.requires.placed s (subst (λ d. stands c.args.men.now d s ≡ true) c.leading_pawn-code.ensures.is h)

pub pawn_square-requires : goal.pawn_square-requires
pawn_square-requires c =
    omega (
      arith,
      c.greatest_number-greatest.ensures,
      ap (λ d. slice_index (pawn_numbers_of c.args.men.now d) 0) c.leading_pawn-code.ensures.is,
      (lead_number_few c.args.material c.args.men.now c.leading_pawn-code.ensures.known c.requires.pawned c.requires.placed).1,
    )

pub returns : goal.returns
returns c =
    lead_pawn_is c.args.material c.args.men.now c.pawn_square.result
    (c.pawn_square.ensures.is ∙ ap pawn_square (c.greatest_number-greatest.ensures ∙ ap (λ d. slice_index (pawn_numbers_of c.args.men.now d) 0) c.leading_pawn-code.ensures.is))
