use Rattle.std.proofs.Common.{◌≡◌, ◌∙◌, true, ap, subst, length, take, arith}
use Rattle.place_index.specs.Shape.{has_pawns}
use Rattle.place_index.proofs.Indices.Numbering.{codes_pawned}
use Rattle.place_index.proofs.Turns.TurnedMen.{pawned_of}
use Rattle.place_index.proofs.turning.lead_codes.Goals as goal

pub returns-then-has_pawns : goal.returns-then-has_pawns
returns-then-has_pawns c =
    let pawned : has_pawns c.args.shape.now.material ≡ true = subst (λ k. has_pawns k ≡ true) c.material-material.ensures.is (pawned_of c.material-material.result (c.has_pawns.ensures.0 c.if-has_pawns.true)) in
    ap (take 1) c.pieces-pieces.ensures.is ∙ codes_pawned c.args.shape.now c.material-material.ensures.shape pawned (omega (arith, ap length c.pieces-pieces.ensures.is, c.pieces-pieces.ensures.least))
