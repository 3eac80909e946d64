use Rattle.std.proofs.Common.{refl, arith}
use Rattle.board_core.proofs.Shown.{white_shown, black_shown}
use Rattle.board_core.proofs.sets.Sets.sides.Goals as goal

pub returns : goal.returns
returns c =
    let kinds = c.kinds-kinds.result in
    rw (
      white_shown c.args.self.now kinds c.bitand.result c.kinds-kinds.ensures (omega arith) c.bitand.ensures,
      black_shown c.args.self.now kinds c.bitand-2.result c.except.result c.kinds-kinds.ensures (omega arith) c.bitand-2.ensures c.except.ensures,
    )
    refl
