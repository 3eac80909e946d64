use Rattle.std.proofs.Common.{◌∙◌, sym, ap, refl, None}
use Rattle.std.specs.Result.{result_ok}
use Rattle.board_core.specs.declared.parts.Parts.{Parts}
use Rattle.judge_core.specs.Distances.{by_own_table}
use Rattle.judge_core.specs.Inside.Determined.{reach_after, outcome_left_in, by_table_told}
use Rattle.judge_core.specs.Probing.{searched_by, wdl_of}
use Rattle.judge_core.specs.Tables.{Holding}
use Rattle.judge_core.proofs.OwnTableTold.{bare_none, left_by}
use Rattle.judge_core.proofs.set.Set.distance_by_own_table.Goals as goal

pub returns-then-is_bare-clause-is : goal.returns-then-is_bare-clause-is
returns-then-is_bare-clause-is c = bare_none c.args.self.now.tables c.args.position.now (c.is_bare.ensures.bare c.if-is_bare.true)

pub returns-in_default-clause-is : goal.returns-in_default-clause-is
returns-in_default-clause-is c =
    let tables = c.args.self.now.tables in
    let p = c.args.position.now in
    let is = c.capture_search-searched.ensures.is ∙ ap (searched_by tables (wdl_of tables)) c.of-probe.ensures in
    let left = c.in_ok-left.ensures.is ∙ ap (λ (h : Holding). outcome_left_in h.tables p c.capture_search-searched.result) c.capture_search-searched.ensures.unchanged in
    left_by tables p c.capture_search-searched.result c.in_ok-left.left None (c.is_bare.ensures.more c.if-is_bare.false) is left (rw c.in_default.is refl)

pub returns-clause-is : goal.returns-clause-is
returns-clause-is c =
    let tables = c.args.self.now.tables in
    let p = c.args.position.now in
    let is = c.capture_search-searched.ensures.is ∙ ap (searched_by tables (wdl_of tables)) c.of-probe.ensures in
    let left = c.in_ok-left.ensures.is ∙ ap (λ (h : Holding). outcome_left_in h.tables p c.capture_search-searched.result) c.capture_search-searched.ensures.unchanged in
    let told = c.in_ok-told.ensures.is
    ∙ ap (λ (h : Holding). by_own_table h.tables (reach_after h.tables) c.of-probe.result c.in-Some.outcome) (c.in_ok-left.ensures.unchanged ∙ c.capture_search-searched.ensures.unchanged)
    ∙ ap (λ (q : Parts). by_own_table tables (reach_after tables) q c.in-Some.outcome) c.of-probe.ensures in
    left_by tables p c.capture_search-searched.result c.in_ok-left.left _ (c.is_bare.ensures.more c.if-is_bare.false) is left (c.ok.ensures.value ∙ ap result_ok told ∙ ap (by_table_told tables p) (sym c.in-Some.is))
