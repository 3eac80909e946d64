use Rattle.std.proofs.Common.{refl, arith, ap}
use Rattle.board_core.specs.declared.piece.Side.TheVariants.{White, Black}
use Rattle.board_core.specs.declared.sides.Sides.{Sides}
use Rattle.board_core.specs.Position.{is_of}
use Rattle.board_core.proofs.SideSets.{put_set}
use Rattle.board_core.proofs.sides.Sides.put.Goals as goal

pub returns : goal.returns
returns c = λ men len is.
    rw (
      put_set (is_of White) refl men c.args.square c.args.man c.args.self.now.white c.marked.result len (ap (λ (x : Sides). x.white) is) (omega arith) (rw c.is_of.ensures at c.marked.ensures.here) c.marked.ensures.others c.marked.ensures.only,
      put_set (is_of Black) refl men c.args.square c.args.man c.args.self.now.black c.marked-2.result len (ap (λ (x : Sides). x.black) is) (omega arith) (rw c.is_of-2.ensures at c.marked-2.ensures.here) c.marked-2.ensures.others c.marked-2.ensures.only,
    )
    refl
