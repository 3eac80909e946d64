use Rattle.std.proofs.Common.{◌+◌, set, subst, sym, arith}
use Rattle.probe_api.specs.declared.root.PlainRootMove.{PlainRootMove}
use Rattle.probe_api.specs.Roots.{plain_root}
use Rattle.probe_api.proofs.Placing.{ArePut, none_put, one_put, all_put}
use Rattle.probe_api.proofs.root.put_each.Goals as goal

pub loop-place-init : goal.loop-place-init
loop-place-init c = none_put plain_root c.args.moves.now c.args.room.now

pub loop-place-preserved : goal.loop-place-preserved
loop-place-preserved c =
    subst (λ (x : PlainRootMove). ArePut plain_root c.args.moves.now c.args.room.now (set c.loop-place.room c.loop-place.place x) (c.loop-place.place + 1)) (sym c.of-numbers.ensures)
    (one_put plain_root c.args.moves.now c.args.room.now c.loop-place.room c.loop-place.place c.root_move_at.result.now c.loop-place-test.true
    (omega (arith, c.loop-place-test.true, c.loop-place.invariant.long, c.requires)) c.root_move_at.ensures c.loop-place.invariant)

pub returns : goal.returns
returns c =
    all_put plain_root c.args.moves.now c.args.room.now c.loop-place.room
    (subst (ArePut plain_root c.args.moves.now c.args.room.now c.loop-place.room) (omega (arith, c.loop-place-test.false, c.loop-place.auto.place-end)) c.loop-place.invariant)
