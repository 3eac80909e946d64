use Rattle.std.proofs.Common.{◌≡◌, ◌∙◌, ap, sym, slice_index, arith}
use Rattle.std.proofs.lemmas.List.{get_or_default}
use Rattle.place_index.specs.Material.{count_of, pieces_of}
use Rattle.place_index.specs.Men.{squares_of}
use Rattle.place_index.specs.Shape.{lead_men}
use Rattle.place_index.proofs.Turns.LeadingPieces.{first_once, second_once, third_once, three_lead, kings_lead}
use Rattle.place_index.proofs.leading.leading_pieces.Goals as goal

pub square_of-first-requires : goal.square_of-first-requires
square_of-first-requires c =
    let pieces : c.pieces-pieces.result.now ≡ c.args.turned.now.shape.pieces = c.pieces-pieces.ensures.is ∙ ap (λ l. l.pieces) c.shape-shape.ensures.is in
    let first = c.index-pieces-0.is ∙ get_or_default c.pieces-pieces.result.now 0 c.index-pieces-0.result 0 (omega (arith, c.pieces-pieces.ensures.least)) ∙ ap (λ xs. slice_index xs 0) pieces in
    ap (count_of (pieces_of c.args.turned.now.shape.material)) first ∙ first_once c.args.turned.now.shape c.shape-shape.ensures.turned.shape c.requires

pub square_of-second-requires : goal.square_of-second-requires
square_of-second-requires c =
    let pieces : c.pieces-pieces.result.now ≡ c.args.turned.now.shape.pieces = c.pieces-pieces.ensures.is ∙ ap (λ l. l.pieces) c.shape-shape.ensures.is in
    let second = c.index-pieces-1.is ∙ get_or_default c.pieces-pieces.result.now 1 c.index-pieces-1.result 0 (omega (arith, c.pieces-pieces.ensures.least)) ∙ ap (λ xs. slice_index xs 1) pieces in
    ap (count_of (pieces_of c.args.turned.now.shape.material)) second ∙ second_once c.args.turned.now.shape c.shape-shape.ensures.turned.shape c.requires

pub square_of-third-requires : goal.square_of-third-requires
square_of-third-requires c =
    let pieces : c.pieces-pieces.result.now ≡ c.args.turned.now.shape.pieces = c.pieces-pieces.ensures.is ∙ ap (λ l. l.pieces) c.shape-shape.ensures.is in
    let three : lead_men c.args.turned.now.shape.material ≡ 3 = sym (c.leading_men.ensures.is ∙ ap lead_men (c.material-material.ensures.is ∙ ap (λ l. l.material) c.shape-shape.ensures.is)) ∙ c.if-leading_men-ne3.false in
    let third = c.index-pieces-2.is ∙ get_or_default c.pieces-pieces.result.now 2 c.index-pieces-2.result 0 (omega (arith, c.pieces-pieces.ensures.least)) ∙ ap (λ xs. slice_index xs 2) pieces in
    ap (count_of (pieces_of c.args.turned.now.shape.material)) third ∙ third_once c.args.turned.now.shape c.shape-shape.ensures.turned.shape c.requires three

pub returns-then-leading_men-ne3 : goal.returns-then-leading_men-ne3
returns-then-leading_men-ne3 c =
    let pieces : c.args.turned.now.shape.pieces ≡ c.pieces-pieces.result.now = sym (c.pieces-pieces.ensures.is ∙ ap (λ l. l.pieces) c.shape-shape.ensures.is) in
    kings_lead c.args.turned.now c.square_of-first.result c.square_of-second.result c.shape-shape.ensures.turned c.requires
    (λ three. c.if-leading_men-ne3.true (c.leading_men.ensures.is ∙ ap lead_men (c.material-material.ensures.is ∙ ap (λ l. l.material) c.shape-shape.ensures.is) ∙ three))
    (ap (squares_of c.args.turned.now.men) (ap (λ xs. slice_index xs 0) pieces ∙ sym (c.index-pieces-0.is ∙ get_or_default c.pieces-pieces.result.now 0 c.index-pieces-0.result 0 (omega (arith, c.pieces-pieces.ensures.least)))) ∙ c.square_of-first.ensures)
    (ap (squares_of c.args.turned.now.men) (ap (λ xs. slice_index xs 1) pieces ∙ sym (c.index-pieces-1.is ∙ get_or_default c.pieces-pieces.result.now 1 c.index-pieces-1.result 0 (omega (arith, c.pieces-pieces.ensures.least)))) ∙ c.square_of-second.ensures)

pub returns : goal.returns
returns c =
    let pieces : c.args.turned.now.shape.pieces ≡ c.pieces-pieces.result.now = sym (c.pieces-pieces.ensures.is ∙ ap (λ l. l.pieces) c.shape-shape.ensures.is) in
    let three : lead_men c.args.turned.now.shape.material ≡ 3 = sym (c.leading_men.ensures.is ∙ ap lead_men (c.material-material.ensures.is ∙ ap (λ l. l.material) c.shape-shape.ensures.is)) ∙ c.if-leading_men-ne3.false in
    three_lead c.args.turned.now c.square_of-first.result c.square_of-second.result c.square_of-third.result c.shape-shape.ensures.turned c.requires three
    (ap (squares_of c.args.turned.now.men) (ap (λ xs. slice_index xs 0) pieces ∙ sym (c.index-pieces-0.is ∙ get_or_default c.pieces-pieces.result.now 0 c.index-pieces-0.result 0 (omega (arith, c.pieces-pieces.ensures.least)))) ∙ c.square_of-first.ensures)
    (ap (squares_of c.args.turned.now.men) (ap (λ xs. slice_index xs 1) pieces ∙ sym (c.index-pieces-1.is ∙ get_or_default c.pieces-pieces.result.now 1 c.index-pieces-1.result 0 (omega (arith, c.pieces-pieces.ensures.least)))) ∙ c.square_of-second.ensures)
    (ap (squares_of c.args.turned.now.men) (ap (λ xs. slice_index xs 2) pieces ∙ sym (c.index-pieces-2.is ∙ get_or_default c.pieces-pieces.result.now 2 c.index-pieces-2.result 0 (omega (arith, c.pieces-pieces.ensures.least)))) ∙ c.square_of-third.ensures)
