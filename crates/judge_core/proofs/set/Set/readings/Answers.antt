use Rattle.std.proofs.Common.{◌∙◌, ap}
use Rattle.board_core.specs.declared.parts.Parts.{Parts}
use Rattle.judge_core.specs.Distances.{dtz_from_search, dtz_to}
use Rattle.judge_core.specs.Probing.{searched_by, wdl_of}
use Rattle.judge_core.specs.Tables.{Holding}
use Rattle.judge_core.proofs.Rule.{bare, searched}
use Rattle.judge_core.proofs.Plies.{reached}
use Rattle.judge_core.proofs.ByReadings.{bare_reach}
use Rattle.judge_core.proofs.set.Set.readings.Goals as goal

pub returns-then-is_bare-clause-wdl : goal.returns-then-is_bare-clause-wdl
returns-then-is_bare-clause-wdl c = bare _ _ c.is_bare.ensures.position (c.is_bare.ensures.bare c.if-is_bare.true)

pub returns-then-is_bare-clause-dtz : goal.returns-then-is_bare-clause-dtz
returns-then-is_bare-clause-dtz c = bare_reach _ _ (c.is_bare.ensures.bare c.if-is_bare.true)

pub returns-clause-wdl : goal.returns-clause-wdl
returns-clause-wdl c =
    let tables = c.args.self.now.tables in
    let is = c.capture_search-searched.ensures.is ∙ ap (searched_by tables (wdl_of tables)) c.of-probe.ensures in
    c.worth_in.ensures ∙ searched tables c.args.position.now c.capture_search-searched.result c.is_bare.ensures.position (c.is_bare.ensures.more c.if-is_bare.false) is

pub returns-clause-dtz : goal.returns-clause-dtz
returns-clause-dtz c =
    let tables = c.args.self.now.tables in
    let is = c.capture_search-searched.ensures.is ∙ ap (searched_by tables (wdl_of tables)) c.of-probe.ensures in
    c.in_ok-dtz.ensures.is
    ∙ ap (λ (h : Holding). dtz_from_search h.tables (dtz_to h.tables 1) c.of-probe.result c.capture_search-searched.result) c.capture_search-searched.ensures.unchanged
    ∙ ap (λ (p : Parts). dtz_from_search tables (dtz_to tables 1) p c.capture_search-searched.result) c.of-probe.ensures
    ∙ reached tables c.args.position.now c.capture_search-searched.result (c.is_bare.ensures.more c.if-is_bare.false) is
