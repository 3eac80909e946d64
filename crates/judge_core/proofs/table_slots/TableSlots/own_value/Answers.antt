use Rattle.std.proofs.Common.{◌∙◌, ap, subst}
use Rattle.table_file.specs.declared.kind.TableKind.TheVariants.{Wdl}
use Rattle.judge_core.specs.Inside.Placing.{IsPlacedOf, IsOwnPlace}
use Rattle.judge_core.specs.Tables.{table_at}
use Rattle.judge_core.proofs.Placing.{bare_value, missing_value, read_value}
use Rattle.judge_core.proofs.table_slots.TableSlots.own_value.Goals as goal

pub returns-in_default-clause-is : goal.returns-in_default-clause-is
returns-in_default-clause-is c = bare_value c.args.self.now.tables c.args.probe.now c.placed.result.now c.in_default.is c.placed.ensures

pub returns-in_default-own-clause-is : goal.returns-in_default-own-clause-is
returns-in_default-own-clause-is c =
    let missing = subst (IsOwnPlace c.args.self.now.tables c.args.probe.now) c.in_default-own.is c.requires.own c.in-Some.placed (subst (IsPlacedOf c.args.probe.now) c.in-Some.is c.placed.ensures) in
    missing_value c.args.self.now.tables c.args.probe.now c.placed.result.now _ _ c.in-Some.is c.placed.ensures c.material-material.ensures
    (ap (table_at c.args.self.now.tables Wdl) c.material-material.ensures ∙ missing)

pub returns-clause-is : goal.returns-clause-is
returns-clause-is c =
    let there = subst (IsOwnPlace c.args.self.now.tables c.args.probe.now) c.in-Some-own.is c.requires.own c.in-Some.placed (subst (IsPlacedOf c.args.probe.now) c.in-Some.is c.placed.ensures) in
    read_value c.args.self.now.tables c.args.probe.now c.placed.result.now _ _ c.in-Some.is c.placed.ensures c.material-material.ensures c.in-Some-own.own.part.table c.read_at-points.result _
    (ap (table_at c.args.self.now.tables Wdl) c.material-material.ensures ∙ there.0) c.read_at-points.ensures.is c.value_of.ensures
