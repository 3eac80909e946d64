use Rattle.source_core.proofs.CourseLaws.{run_lost, run_more, run_none, run_over}
use Rattle.source_core.proofs.course.run.Goals as goal

pub loop-number-init : goal.loop-number-init
loop-number-init g c = run_none _ _ _ _ _ c.requires

pub loop-number-preserved : goal.loop-number-preserved
loop-number-preserved g c =
    let steps = rw c.in-Some.ensures.number at c.in-None.ensures.steps in
    run_more _ _ _ _ _ _ _ _ _ _ _ _ _ _ _ _ _ _ _ _ _ c.loop-number.invariant steps c.in-None.ensures.same c.in-None.ensures.room c.in-Ok.ensures.made

pub returns-in-Err-clause-made : goal.returns-in-Err-clause-made
returns-in-Err-clause-made g c =
    let steps = rw c.in-Some.ensures.number at c.in-None.ensures.steps in
    run_lost _ _ _ _ _ _ _ _ _ _ _ _ _ _ c.in-Err.fault c.loop-number.invariant steps c.in-Err.ensures.made

pub returns-in-Some-step-clause-made : goal.returns-in-Some-step-clause-made
returns-in-Some-step-clause-made g c =
    let steps = rw c.in-Some.ensures.number at c.in-Some-step.ensures.steps in
    run_over _ _ _ _ _ _ _ _ _ _ _ _ _ _ c.in-Some-step.end c.finish.result c.loop-number.invariant steps c.finish.ensures.ended c.finish.ensures.made
