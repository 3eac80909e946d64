use Rattle.arbiter_core.proofs.state.ArbiterState.open.Goals as goal

pub open_known-requires-clause-named : goal.open_known-requires-clause-named
open_known-requires-clause-named g c = (c.in-Some.ensures.some c.args.tables.now).0.name

pub open_known-requires-clause-stamped : goal.open_known-requires-clause-stamped
open_known-requires-clause-stamped g c = (c.in-Some.ensures.some c.args.tables.now).1.stamp

pub returns-in_default-clause-good : goal.returns-in_default-clause-good
returns-in_default-clause-good g c = λ good. absurd (c.in_default.ensures.none c.args.tables.now good)

pub returns-clause-good : goal.returns-clause-good
returns-clause-good g c = c.open_known.ensures.opens.good

pub returns-clause-bad : goal.returns-clause-bad
returns-clause-bad g c = λ bad. absurd (bad (c.in-Some.ensures.some c.args.tables.now).0)
