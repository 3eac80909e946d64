use Rattle.place_index.specs.Material.{pieces_of}
use Rattle.place_index.proofs.Materials.Arranging.{arranged_length}
use Rattle.place_index.proofs.arrangement.has_good_pieces.Goals as goal

pub begins_well-requires : goal.begins_well-requires
begins_well-requires c = arranged_length c.args.pieces.now (pieces_of c.args.material) (c.is_arrangement.ensures.0 c.if-not-is_arrangement.false)

pub returns-then-is_side_by_side : goal.returns-then-is_side_by_side
returns-then-is_side_by_side c = (
  λ t. record {
    arrangement = c.is_arrangement.ensures.0 c.if-not-is_arrangement.false;
    side_by_side = c.is_side_by_side.ensures.0 c.if-is_side_by_side.true;
    begins = c.begins_well.ensures.0 t;
  },
  λ good. c.begins_well.ensures.1 good.begins,
)
