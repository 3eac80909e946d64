use Rattle.std.proofs.Common.{arith, ap, ◌∙◌, ◌≡◌}
use Rattle.board_core.specs.Moves.{promotion_place}
use Rattle.board_core.proofs.Listing.{HasListedBelow-skip, promotion_below}
use Rattle.board_core.proofs.ComputedLists.{promotion_back}
use Rattle.board_core.proofs.Refused.{on_err, not_ok}
use Rattle.board_core.proofs.generation.add_between.Goals as goal

pub add-requires-clause-below : goal.add-requires-clause-below
add-requires-clause-below c =
    let place : promotion_place c.promotion_at.result ≡ c.loop-place.place = ap promotion_place c.promotion_at.ensures ∙ promotion_back c.loop-place.place (omega (arith, c.loop-place-test.true, c.places_between-end.ensures.most)) in
    rw place c.loop-place.invariant

pub loop-place-preserved : goal.loop-place-preserved
loop-place-preserved c =
    let place : promotion_place c.promotion_at.result ≡ c.loop-place.place = ap promotion_place c.promotion_at.ensures ∙ promotion_back c.loop-place.place (omega (arith, c.loop-place-test.true, c.places_between-end.ensures.most)) in
    HasListedBelow-skip _ _ _ _ _ c.in_ok-add.ensures.added (omega (arith, place)) (λ m l low high. absurd (omega (arith, place)))

pub returns-clause-added : goal.returns-clause-added
returns-clause-added c =
    HasListedBelow-skip _ _ _ _ _ c.loop-place.invariant (omega (arith, c.loop-place.auto, c.places_between-end.ensures.most)) (λ m l low high.
    let k = promotion_below m.promotion in
    let f = c.places_between-end.ensures.whole m l.0 (omega (arith, l.0.1.to_board)) (omega (arith, l.0.1.to_board)) in
    omega (arith, l.0.1.to_board, c.loop-place-test.false))

pub add-requires-clause-position : goal.add-requires-clause-position
add-requires-clause-position c = c.requires.position

pub add-requires-clause-guard : goal.add-requires-clause-guard
add-requires-clause-guard c = c.requires.guard

pub add-requires-clause-unpinned : goal.add-requires-clause-unpinned
add-requires-clause-unpinned c = c.requires.unpinned

pub returns-in_err-add-clause-added : goal.returns-in_err-add-clause-added
returns-in_err-add-clause-added c = not_ok _ c.from_residual.result c.from_residual.ensures.0

pub returns-in_err-add-clause-memory : goal.returns-in_err-add-clause-memory
returns-in_err-add-clause-memory c = on_err c.from_residual.result c.in_err-add.ensures.memory

pub returns-clause-memory : goal.returns-clause-memory
returns-clause-memory c = tt
