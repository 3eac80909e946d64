use Rattle.std.proofs.Common.{◌+◌, ◌-◌, refl, sym, ◌∙◌, arith}
use Rattle.place_index.proofs.Materials.Comparing.{equal, unequal, read}
use Rattle.place_index.proofs.Shapes.Runs.{scanned_none, scanned_on, scanned_end, scanned_all}
use Rattle.place_index.proofs.group.groups.Goals as goal
use Rattle.place_index.proofs.group.groups.Goals.{else-i-pieces-via-then-i-pieces+else-eq, else-i-pieces-via-else-i-pieces}

pub loop-i-init : goal.loop-i-init
loop-i-init c =
    rw (c.push.ensures.items, c.new-groups.ensures, read c.args.pieces.now 0 c.index-pieces-0.result c.index-pieces-0.is (omega (arith, c.requires.some, c.requires.lead)))
    (scanned_none c.args.pieces.now c.args.lead)

pub loop-i-preserved-then-eq : goal.loop-i-preserved-then-eq
loop-i-preserved-then-eq c =
    scanned_on c.args.pieces.now c.args.lead c.loop-i.start c.loop-i.i c.loop-i.groups.items c.loop-i.invariant c.if-i-pieces.true
    (sym (read c.args.pieces.now (c.loop-i.i + 1) c.index-pieces-i.result c.index-pieces-i.is c.if-i-pieces.true)
    ∙ equal c.index-pieces-i.result c.index-pieces-i-then-i-pieces.result c.eq.result c.eq.ensures c.if-eq.true
    ∙ read c.args.pieces.now c.loop-i.i c.index-pieces-i-then-i-pieces.result c.index-pieces-i-then-i-pieces.is c.loop-i-test.true)

pub loop-i-preserved : goal.loop-i-preserved
loop-i-preserved c =
    rw (c.push-in-loop-i.ensures.items, read c.args.pieces.now c.loop-i.i c.index-pieces-i-in-loop-i.result c.index-pieces-i-in-loop-i.is c.loop-i-test.true)
    (scanned_end c.args.pieces.now c.args.lead c.loop-i.start c.loop-i.i (c.loop-i.i + 1 - c.loop-i.start) c.loop-i.groups.items c.loop-i.invariant c.loop-i-test.true refl
    (λ lt e. elim c.else-i-pieces.branch [
      | else-i-pieces-via-then-i-pieces+else-eq w ↦
          unequal w.index-pieces-i.result w.index-pieces-i-then-i-pieces.result w.eq.result w.eq.ensures w.if-eq.false
          (read c.args.pieces.now (c.loop-i.i + 1) w.index-pieces-i.result w.index-pieces-i.is lt
          ∙ e ∙ sym (read c.args.pieces.now c.loop-i.i w.index-pieces-i-then-i-pieces.result w.index-pieces-i-then-i-pieces.is c.loop-i-test.true))
      | else-i-pieces-via-else-i-pieces w ↦ omega (arith, lt, w.if-i-pieces.false)
    ]))

pub returns : goal.returns
returns c = scanned_all c.args.pieces.now c.args.lead c.loop-i.start c.loop-i.i c.loop-i.groups.items c.loop-i.invariant c.loop-i-test.false
