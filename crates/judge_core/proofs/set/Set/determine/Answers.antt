use Rattle.std.proofs.Common.{◌∙◌, ap}
use Rattle.judge_core.specs.Inside.Determined.{distance_in_both, distance_by_own_table, or_agreed_distance}
use Rattle.judge_core.specs.Tables.{Holding}
use Rattle.judge_core.proofs.Told.{value_from, reach_from}
use Rattle.judge_core.proofs.set.Set.determine.Goals as goal

pub returns-clause-wdl : goal.returns-clause-wdl
returns-clause-wdl c = value_from c.args.self.now.tables c.args.position.now c.args.strict.now.wdl _ c.requires.wdl c.or_agreed-wdl.ensures.is

pub returns-clause-dtz : goal.returns-clause-dtz
returns-clause-dtz c =
    let p = c.args.position.now in
    let told = c.in_ok-told.ensures.is ∙ ap (λ (h : Holding). or_agreed_distance c.args.strict.now.dtz (distance_in_both h.tables p)) c.or_agreed-wdl.ensures.unchanged in
    let is = c.in_ok-dtz.ensures.is ∙ ap (λ (h : Holding). or_agreed_distance c.in_ok-told.told (distance_by_own_table h.tables p)) (c.in_ok-told.ensures.unchanged ∙ c.or_agreed-wdl.ensures.unchanged) in
    reach_from c.args.self.now.tables p c.args.strict.now.dtz c.in_ok-told.told _ c.requires.dtz told is
