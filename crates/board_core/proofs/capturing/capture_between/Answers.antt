use Rattle.std.proofs.Common.{arith, refl}
use Rattle.std.proofs.lemmas.Bool.{false≢true}
use Rattle.board_core.proofs.NextCapture.{attacks_from, first_between, none_between}
use Rattle.board_core.proofs.capturing.capture_between.Goals as goal

pub returns-then-is_candidate-clause-found : goal.returns-then-is_candidate-clause-found
returns-then-is_candidate-clause-found c = first_between _ _ _ _ c.loop-place.place _ c.promotion_at.result (omega (arith, c.loop-place-test.true, c.places_between-end.ensures.most)) c.promotion_at.ensures refl (c.if-is_candidate.ensures.yes refl) c.loop-place.invariant

pub loop-place-preserved : goal.loop-place-preserved
loop-place-preserved c = none_between _ _ _ _ c.loop-place.place c.promotion_at.result c.promotion_at.ensures (c.if-is_candidate.ensures.no refl) c.loop-place.invariant

pub returns-then-not-attacks_to-clause-none : goal.returns-then-not-attacks_to-clause-none
returns-then-not-attacks_to-clause-none c = λ m w. false≢true (c.if-not-attacks_to.ensures.1 (attacks_from c.args.p.now m _ _ w.0.0.0 w.0.1 w.1))
