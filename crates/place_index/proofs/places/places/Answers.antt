use Rattle.std.proofs.Common.{sym, ◌∙◌, arith}
use Rattle.std.proofs.lemmas.Bool.{not-true, not-false}
use Rattle.place_index.proofs.Shapes.GroupPlaces.{placed_none, placed_free, placed_taken, placed_all, placed_size, placed_room}
use Rattle.place_index.proofs.places.places.Goals as goal

pub loop-place-init : goal.loop-place-init
loop-place-init c = rw c.given_places-places.ensures (placed_none c.args.order c.args.second)

pub loop-place-preserved-then-is_given : goal.loop-place-preserved-then-is_given
loop-place-preserved-then-is_given c =
    placed_taken c.args.order c.args.second c.loop-place.place c.loop-place.places.items (λ s e. (c.requires.second s e).1) c.loop-place.invariant
    (not-true _ (sym c.is_given.ensures ∙ c.if-is_given.true))

pub push-requires : goal.push-requires
push-requires c = (
  omega arith,
  omega (
    arith,
    c.requires.groups,
    placed_room c.args.order c.args.second c.loop-place.place c.args.groups c.loop-place.places.items c.requires.order c.requires.second c.loop-place.invariant
        (not-false _ (sym c.is_given.ensures ∙ c.if-is_given.false)) c.loop-place-test.true,
  ),
)

pub loop-place-preserved : goal.loop-place-preserved
loop-place-preserved c =
    rw c.push.ensures.items
    (placed_free c.args.order c.args.second c.loop-place.place c.loop-place.places.items c.loop-place.invariant (not-false _ (sym c.is_given.ensures ∙ c.if-is_given.false)))

pub returns-clause-is : goal.returns-clause-is
returns-clause-is c =
    placed_all c.args.order c.args.second c.args.groups c.loop-place.place c.loop-place.places.items c.loop-place.invariant (omega (arith, c.loop-place-test.false, c.loop-place.auto.place-end))

pub returns-clause-len : goal.returns-clause-len
returns-clause-len c =
    placed_size c.args.order c.args.second c.args.groups c.loop-place.place c.loop-place.places.items c.requires.order c.requires.second c.loop-place.invariant
    (omega (arith, c.loop-place-test.false, c.loop-place.auto.place-end))
