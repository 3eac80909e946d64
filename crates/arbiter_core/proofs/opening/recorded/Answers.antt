use Rattle.std.proofs.Common.{ap, ◌∙◌, Some}
use Rattle.arbiter_core.specs.Setups.{terms_with}
use Rattle.arbiter_core.specs.Inside.Starting.{identity_by}
use Rattle.arbiter_core.proofs.Opened.{over_bytes, over_nothing, played_first, was_some, was_none}
use Rattle.arbiter_core.proofs.opening.recorded.Goals as goal

pub returns-in-Ok-Some-clause-opens : goal.returns-in-Ok-Some-clause-opens
returns-in-Ok-Some-clause-opens g c =
    over_bytes g.K.Keeper.facts (terms_with c.args.terms.now c.args.tables.now) (identity_by c.args.terms.now c.args.stamp) c.args.keeper.now c.get.new.self c.deref.result.now c.resume.result
    (ap Some c.deref.ensures.value ∙ was_some _ c.in-Ok-Some.field-0 c.in-Ok-Some.bytes _ c.in-Ok-Some.field-0-is c.in-Ok-Some.ensures.value) c.get.ensures.kept c.in-Ok-Some.ensures.once c.resume.ensures.ok c.resume.ensures.err

pub returns-in-Ok-None-clause-played : goal.returns-in-Ok-None-clause-played
returns-in-Ok-None-clause-played g c =
    played_first g.K.Keeper.facts (terms_with c.args.terms.now c.args.tables.now) (identity_by c.args.terms.now c.args.stamp) c.get.new.self c.put_first.new.keeper c.put_first.result c.put_first.ensures.put

pub returns-in-Ok-None-clause-opens : goal.returns-in-Ok-None-clause-opens
returns-in-Ok-None-clause-opens g c =
    over_nothing g.K.Keeper.facts (terms_with c.args.terms.now c.args.tables.now) (identity_by c.args.terms.now c.args.stamp) c.args.keeper.now c.get.new.self c.put_first.new.keeper c.put_first.result
    (was_none _ c.in-Ok-None.field-0 _ c.in-Ok-None.field-0-is c.in-Ok-None.ensures.value) c.get.ensures.kept c.get.ensures.outcomes c.get.ensures.count c.in-Ok-None.ensures.once c.put_first.ensures.put
