use Rattle.std.proofs.Common.{◌∙◌, sym, ap, arith, None, get_or}
use Rattle.judge_core.specs.Inside.Kept.{tables_in}
use Rattle.judge_core.specs.Tables.{Holding, slot, table_at}
use Rattle.judge_core.proofs.Entries.{part_found}
use Rattle.judge_core.proofs.Slots.{held}
use Rattle.judge_core.proofs.table_slots.TableSlots.part.Goals as goal

pub returns-in-Some-clause-found : goal.returns-in-Some-clause-found
returns-in-Some-clause-found c =
    let inside =
    held c.self.inside.tables.items c.slot.result c.index.result.now _ (omega (arith, c.self.invariant.slots, c.slot.ensures.below)) c.index.ensures c.in-Some.ensures.some
    ∙ ap (λ k. get_or (tables_in c.self.inside.tables.items) k None) c.slot.ensures.is in
    let filed = c.self.invariant.filed c.args.kind c.material.result c.in-Some.table.now c.slot.ensures.known (sym inside) in
    let on =
    inside
    ∙ ap (λ (h : Holding). get_or h.tables (slot c.args.kind c.material.result) None) c.self.view_is
    ∙ ap (table_at c.args.self.now.tables c.args.kind) c.material.ensures in
    part_found c.args.self.now.tables c.args.kind c.args.placed.now _ _ _ _ c.part.ensures c.side.ensures c.file.ensures.is c.file.ensures.first (sym on) filed.0 (filed.1 ∙ c.material.ensures)

pub returns-in-None-clause-none : goal.returns-in-None-clause-none
returns-in-None-clause-none c =
    sym
    (held c.self.inside.tables.items c.slot.result c.index.result.now _ (omega (arith, c.self.invariant.slots, c.slot.ensures.below)) c.index.ensures c.in-None.ensures.none
    ∙ ap (λ k. get_or (tables_in c.self.inside.tables.items) k None) c.slot.ensures.is
    ∙ ap (λ (h : Holding). get_or h.tables (slot c.args.kind c.material.result) None) c.self.view_is
    ∙ ap (table_at c.args.self.now.tables c.args.kind) c.material.ensures)
