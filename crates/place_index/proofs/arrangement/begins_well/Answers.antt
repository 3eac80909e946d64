use Rattle.std.proofs.Common.{◌≡◌, ◌+◌, true, false, refl, sym, ◌∙◌, arith}
use Rattle.std.proofs.lemmas.Bool.{false≢true}
use Rattle.place_index.specs.Material.{white_pawns, black_pawns}
use Rattle.place_index.specs.Shape.{has_pawns, has_unique}
use Rattle.place_index.proofs.Materials.MenTables.{men_least}
use Rattle.place_index.proofs.Shapes.Beginning.{some_pawns, no_pawns, unique_by_three, none_by_two, well_by_pawns, well_by_three, well_by_kings}
use Rattle.place_index.proofs.arrangement.begins_well.Goals as goal

pub begins_by_pawns-requires-clause-pawns : goal.begins_by_pawns-requires-clause-pawns
begins_by_pawns-requires-clause-pawns c = some_pawns (white_pawns c.args.material + black_pawns c.args.material) (c.if-has_pawns.ensures.0 refl)

pub begins_by_three-requires : goal.begins_by_three-requires
begins_by_three-requires c = omega (arith, c.requires, men_least c.args.material c.leading_men.ensures.known)

pub begins_by_kings-requires : goal.begins_by_kings-requires
begins_by_kings-requires c = omega (arith, c.requires, men_least c.args.material c.leading_men.ensures.known)

pub returns-then-has_pawns : goal.returns-then-has_pawns
returns-then-has_pawns c =
    let yes : has_pawns c.args.material ≡ true = some_pawns (white_pawns c.args.material + black_pawns c.args.material) (c.if-has_pawns.ensures.0 refl) in (
      λ t. well_by_pawns c.args.material c.args.pieces.now yes (c.begins_by_pawns.ensures.0 t),
      λ well. c.begins_by_pawns.ensures.1 (well.pawns yes),
    )

pub returns-then-leading_men-eq3 : goal.returns-then-leading_men-eq3
returns-then-leading_men-eq3 c =
    let none : has_pawns c.args.material ≡ false =
    no_pawns (white_pawns c.args.material + black_pawns c.args.material) (λ some. false≢true (c.if-has_pawns.ensures.1 some)) in
    let three : has_unique c.args.material ≡ true = unique_by_three c.args.material none (sym c.leading_men.ensures.is ∙ c.if-leading_men-eq3.true) in (
      λ t. well_by_three c.args.material c.args.pieces.now none three (c.begins_by_three.ensures.0 t),
      λ well. c.begins_by_three.ensures.1 (well.three none three),
    )

pub returns-else-leading_men-eq3 : goal.returns-else-leading_men-eq3
returns-else-leading_men-eq3 c =
    let none : has_pawns c.args.material ≡ false =
    no_pawns (white_pawns c.args.material + black_pawns c.args.material) (λ some. false≢true (c.if-has_pawns.ensures.1 some)) in
    let two : has_unique c.args.material ≡ false = none_by_two c.args.material none (λ e. c.if-leading_men-eq3.false (c.leading_men.ensures.is ∙ e)) in (
      λ t. well_by_kings c.args.material c.args.pieces.now none two (c.begins_by_kings.ensures.0 t),
      λ well. c.begins_by_kings.ensures.1 (well.kings none two),
    )
