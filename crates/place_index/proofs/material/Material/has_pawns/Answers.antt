use Rattle.std.proofs.Common.{◌≡◌, ◌+◌, ◌∙◌, ap, sym, eqb, leb}
use Rattle.std.specs.Prelude.{not}
use Rattle.std.proofs.lemmas.Bool.{leb-true, le-leb}
use Rattle.place_index.specs.Material.{white_pawns, black_pawns}
use Rattle.place_index.proofs.Materials.KeyTables.{pawned_table}
use Rattle.place_index.proofs.material.Material.has_pawns.Goals as goal

pub returns : goal.returns
returns c =
    let same : not (eqb c.leading_code.result 0) ≡ leb 1 (white_pawns c.args.self.now + black_pawns c.args.self.now) =
    ap (λ n. not (eqb n 0)) c.leading_code.ensures.is ∙ pawned_table c.args.self.now c.leading_code.ensures.known in (
      λ t. leb-true _ _ (sym same ∙ t),
      λ some. same ∙ le-leb 1 (white_pawns c.args.self.now + black_pawns c.args.self.now) some,
    )
