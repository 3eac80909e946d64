use Rattle.std.proofs.Common.{◌≡◌, sym, ◌∙◌, arith}
use Rattle.std.proofs.lemmas.Bool.{false≢true}
use Rattle.place_index.specs.Shape.{lead_pawns}
use Rattle.place_index.proofs.Materials.MenTables.{pawns_within}
use Rattle.place_index.proofs.Shapes.Beginning.{lead_by_pawns}
use Rattle.place_index.proofs.arrangement.begins_by_pawns.Goals as goal

pub are_all-requires : goal.are_all-requires
are_all-requires c =
    omega (arith, c.leading_men-lead.ensures.is, lead_by_pawns c.args.material c.requires.pawns, c.requires.men, pawns_within c.args.material c.leading_men-lead.ensures.known)

pub are_all-requires-then-are_all : goal.are_all-requires-then-are_all
are_all-requires-then-are_all c =
    omega (arith, c.leading_men-lead.ensures.is, c.other_pawns.ensures, lead_by_pawns c.args.material c.requires.pawns, c.requires.men, pawns_within c.args.material c.leading_men-lead.ensures.known)

pub returns-then-are_all : goal.returns-then-are_all
returns-then-are_all c =
    let lead : c.leading_men-lead.result ≡ lead_pawns c.args.material = c.leading_men-lead.ensures.is ∙ lead_by_pawns c.args.material c.requires.pawns in (
      λ t. (
        λ i low lt. c.are_all.ensures.0 c.if-are_all.true i low (omega (arith, lt, lead)) ∙ c.leading_pawn.ensures.is,
        λ i low lt. c.are_all-then-are_all.ensures.0 t i (omega (arith, low, lead)) (omega (arith, lt, lead, c.other_pawns.ensures)) ∙ c.other_pawn.ensures,
      ),
      λ b. c.are_all-then-are_all.ensures.1 (λ i low lt. b.1 i (omega (arith, low, lead)) (omega (arith, lt, lead, c.other_pawns.ensures)) ∙ sym c.other_pawn.ensures),
    )

pub returns-else-are_all : goal.returns-else-are_all
returns-else-are_all c =
    let lead : c.leading_men-lead.result ≡ lead_pawns c.args.material = c.leading_men-lead.ensures.is ∙ lead_by_pawns c.args.material c.requires.pawns in (
      λ t. absurd (false≢true (sym c.if-are_all.false ∙ t)),
      λ b. c.are_all.ensures.1 (λ i low lt. b.0 i low (omega (arith, lt, lead)) ∙ sym c.leading_pawn.ensures.is),
    )
