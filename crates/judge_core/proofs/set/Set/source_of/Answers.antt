use Rattle.std.proofs.Common.{◌∙◌, ap}
use Rattle.board_core.specs.declared.parts.Parts.{Parts}
use Rattle.judge_core.specs.Precision.{source_from_search}
use Rattle.judge_core.specs.Probing.{searched_by, wdl_of}
use Rattle.judge_core.specs.Tables.{Holding}
use Rattle.judge_core.proofs.Reaching.{if_same}
use Rattle.judge_core.proofs.Rounding.{few_source, many_source}
use Rattle.judge_core.proofs.set.Set.source_of.Goals as goal

pub returns-then-is_bare-clause-is : goal.returns-then-is_bare-clause-is
returns-then-is_bare-clause-is c = few_source c.args.self.now.tables c.args.position.now (c.is_bare.ensures.bare c.if-is_bare.true)

pub returns-clause-is : goal.returns-clause-is
returns-clause-is c =
    let tables = c.args.self.now.tables in
    let is = c.capture_search-searched.ensures.is ∙ ap (searched_by tables (wdl_of tables)) c.of-probe.ensures in
    if_same c.source_from_search.result _ _
    (ap (λ (h : Holding). source_from_search h.tables c.of-probe.result c.capture_search-searched.result) c.capture_search-searched.ensures.unchanged
    ∙ ap (λ (p : Parts). source_from_search tables p c.capture_search-searched.result) c.of-probe.ensures
    ∙ many_source tables c.args.position.now c.capture_search-searched.result (c.is_bare.ensures.more c.if-is_bare.false) is)
    c.source_from_search.ensures.is
