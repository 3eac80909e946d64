use Rattle.std.proofs.Common.{refl, arith}
use Rattle.board_core.proofs.Shown.{kings_shown, pawns_shown}
use Rattle.board_core.proofs.sets.Sets.census.Goals as goal

pub returns : goal.returns
returns c =
    let of_a_side = c.bitor-of_a_side.result in
    rw (
      c.sides.ensures,
      kings_shown c.args.self.now of_a_side c.bitand.result c.bitor-of_a_side.ensures (omega arith) c.bitand.ensures,
      pawns_shown c.args.self.now of_a_side c.bitand-2.result c.except.result c.bitor-of_a_side.ensures (omega arith) c.bitand-2.ensures c.except.ensures,
    )
    refl
