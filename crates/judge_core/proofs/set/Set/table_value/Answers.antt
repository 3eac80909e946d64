use Rattle.std.proofs.Common.{◌∙◌, sym, ap}
use Rattle.table_file.specs.declared.kind.TableKind.TheVariants.{Wdl}
use Rattle.judge_core.specs.Tables.{Holding, table_at}
use Rattle.judge_core.proofs.Placing.{bare_value, missing_value, read_value}
use Rattle.judge_core.proofs.set.Set.table_value.Goals as goal

pub returns-in_default-clause-is : goal.returns-in_default-clause-is
returns-in_default-clause-is c = bare_value c.args.self.now.tables c.args.probe.now c.placed.result.now c.in_default.is c.placed.ensures

pub returns-in_default-part-clause-is : goal.returns-in_default-part-clause-is
returns-in_default-part-clause-is c =
    let there = ap (λ (h : Holding). table_at h.tables Wdl c.material-material.result) (sym c.self.view_is) ∙ ap (table_at c.self.inside.table_slots.tables Wdl) c.material-material.ensures in
    missing_value c.args.self.now.tables c.args.probe.now c.placed.result.now _ _ c.in-Some.is c.placed.ensures c.material-material.ensures (there ∙ c.in_default-part.ensures.none)

pub returns-clause-is : goal.returns-clause-is
returns-clause-is c =
    let there = ap (λ (h : Holding). table_at h.tables Wdl c.material-material.result) (sym c.self.view_is) ∙ ap (table_at c.self.inside.table_slots.tables Wdl) c.material-material.ensures in
    read_value c.args.self.now.tables c.args.probe.now c.placed.result.now _ _ c.in-Some.is c.placed.ensures c.material-material.ensures c.in-Some-part.part.table c.read-points.result _ (there ∙ c.in-Some-part.ensures.found.on) c.read-points.ensures.is
    c.value_of.ensures
