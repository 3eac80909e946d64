use Rattle.std.proofs.Common.{◌≡◌, ◌∙◌, ap, sym}
use Rattle.place_index.specs.Material.{count_of, pieces_of}
use Rattle.place_index.specs.Men.{squares_of}
use Rattle.place_index.specs.Shape.{lead_men, lead_code}
use Rattle.place_index.proofs.Turns.LeadSquares.{lone_pawn_once, pawn_leads, pawns_lead}
use Rattle.place_index.proofs.leading.leading_pawns.Goals as goal

pub returns-then-leading_men-ne1 : goal.returns-then-leading_men-ne1
returns-then-leading_men-ne1 c = pawns_lead c.args.turned.now c.pawn_numbers-numbers.result c.shape.ensures.turned c.requires c.pawn_numbers-numbers.ensures

pub square_of-square-requires : goal.square_of-square-requires
square_of-square-requires c =
    let material : c.material-material.result ≡ c.args.turned.now.shape.material = c.material-material.ensures.is ∙ ap (λ l. l.material) c.shape.ensures.is in
    let one : lead_men c.args.turned.now.shape.material ≡ 1 = sym (c.leading_men.ensures.is ∙ ap lead_men material) ∙ c.if-leading_men-ne1.false in
    ap (count_of (pieces_of c.args.turned.now.shape.material)) (c.leading_pawn.ensures.is ∙ ap lead_code material) ∙ lone_pawn_once c.args.turned.now.shape.material c.requires one

pub returns : goal.returns
returns c =
    let material : c.material-material.result ≡ c.args.turned.now.shape.material = c.material-material.ensures.is ∙ ap (λ l. l.material) c.shape.ensures.is in
    let one : lead_men c.args.turned.now.shape.material ≡ 1 = sym (c.leading_men.ensures.is ∙ ap lead_men material) ∙ c.if-leading_men-ne1.false in
    pawn_leads c.args.turned.now c.square_of-square.result c.shape.ensures.turned c.requires one
    (ap (squares_of c.args.turned.now.men) (sym (c.leading_pawn.ensures.is ∙ ap lead_code material)) ∙ c.square_of-square.ensures)
