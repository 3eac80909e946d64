use Rattle.std.proofs.Common.{rules, arith, refl}
use Rattle.board_core.proofs.Sought.{no_more}
use Rattle.board_core.proofs.mobility.may_go.Goals as goal

pub returns-then-may_make : goal.returns-then-may_make
returns-then-may_make c = (λ _. let q = c.may_make.ensures.0 c.if-may_make.true in (c.promotion_at.result, q.0, q.1), λ _. search rules)

pub loop-place-preserved : goal.loop-place-preserved
loop-place-preserved c = no_more _ _ _ _ c.loop-place.place c.promotion_at.result c.promotion_at.ensures (λ l w. let t = c.may_make.ensures.1 (l, w) in search rules) c.loop-place.invariant

pub returns : goal.returns
returns c = (λ t. search rules, λ q. absurd (c.loop-place.invariant q.0 q.1 q.2 (let f = c.places_between-end.ensures.whole _ q.1 refl refl in omega (arith, c.loop-place-test.false))))
