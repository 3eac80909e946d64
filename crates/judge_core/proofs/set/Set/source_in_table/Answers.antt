use Rattle.std.proofs.Common.{◌∙◌, sym, ap}
use Rattle.table_file.specs.declared.kind.TableKind.TheVariants.{Dtz}
use Rattle.table_file.specs.Tables.{PartAt}
use Rattle.judge_core.specs.Tables.{Holding, table_at}
use Rattle.judge_core.specs.Precision.{source_in_part}
use Rattle.judge_core.proofs.Rounding.{bare_source, missing_source, part_source, other_side, moves_stored, plies_stored}
use Rattle.judge_core.proofs.set.Set.source_in_table.Goals as goal

pub returns-in_default : goal.returns-in_default
returns-in_default c = bare_source c.args.self.now.tables c.args.probe.now c.args.outcome (rw c.in_default.is at c.placed.ensures)

pub returns-in_default-part : goal.returns-in_default-part
returns-in_default-part c =
    let there = ap (λ (h : Holding). table_at h.tables Dtz c.in-Some.placed.material) (sym c.self.view_is) in
    let at = rw c.in-Some.is at c.placed.ensures in
    missing_source c.args.self.now.tables c.args.probe.now c.args.outcome c.in-Some.placed.material at.found (there ∙ c.in_default-part.ensures.none)

pub returns-then-not-stores : goal.returns-then-not-stores
returns-then-not-stores c =
    let there = ap (λ (h : Holding). table_at h.tables Dtz c.in-Some.placed.material) (sym c.self.view_is) in
    let at = rw c.in-Some.is at c.placed.ensures in
    let found = c.in-Some-part.ensures.found in
    let is = other_side c.in-Some-part.part c.args.outcome c.stores.result c.stores.ensures c.if-not-stores.true ∙ ap (λ (x : PartAt). source_in_part x c.args.outcome) found.is in
    part_source c.args.self.now.tables c.args.probe.now c.args.outcome c.in-Some.placed.material at.found c.in-Some-part.part.table c.in-Some.placed _ (there ∙ found.on) at.is is

pub returns-then-counts_moves : goal.returns-then-counts_moves
returns-then-counts_moves c =
    let there = ap (λ (h : Holding). table_at h.tables Dtz c.in-Some.placed.material) (sym c.self.view_is) in
    let at = rw c.in-Some.is at c.placed.ensures in
    let found = c.in-Some-part.ensures.found in
    let is = moves_stored c.in-Some-part.part c.args.outcome c.stores.result c.stores.ensures c.counts_moves.result c.if-not-stores.false c.counts_moves.ensures c.if-counts_moves.true ∙ ap (λ (x : PartAt). source_in_part x c.args.outcome) found.is in
    part_source c.args.self.now.tables c.args.probe.now c.args.outcome c.in-Some.placed.material at.found c.in-Some-part.part.table c.in-Some.placed _ (there ∙ found.on) at.is is

pub returns-else-counts_moves : goal.returns-else-counts_moves
returns-else-counts_moves c =
    let there = ap (λ (h : Holding). table_at h.tables Dtz c.in-Some.placed.material) (sym c.self.view_is) in
    let at = rw c.in-Some.is at c.placed.ensures in
    let found = c.in-Some-part.ensures.found in
    let is = plies_stored c.in-Some-part.part c.args.outcome c.stores.result c.stores.ensures c.counts_moves.result c.if-not-stores.false c.counts_moves.ensures c.if-counts_moves.false ∙ ap (λ (x : PartAt). source_in_part x c.args.outcome) found.is in
    part_source c.args.self.now.tables c.args.probe.now c.args.outcome c.in-Some.placed.material at.found c.in-Some-part.part.table c.in-Some.placed _ (there ∙ found.on) at.is is
