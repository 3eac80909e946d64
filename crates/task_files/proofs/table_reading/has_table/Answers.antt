use Rattle.std.proofs.Common.{◌∙◌, arith, ap, map, refl, subst, sym}
use Rattle.std.proofs.lemmas.List.{take_all}
use Rattle.std.proofs.lemmas.Bool.{false≢true}
use Rattle.std.specs.Prelude.{string_bytes}
use Rattle.move_msg.specs.TableNames.{IsFileName}
use Rattle.task_files.specs.TableReads.{HasTable}
use Rattle.task_files.proofs.NameLaws.{has_at, one_more, parted, texts}
use Rattle.task_files.proofs.ReadLaws.{none_more}
use Rattle.task_files.proofs.table_reading.has_table.Goals as goal

pub returns-then-is_file_name : goal.returns-then-is_file_name
returns-then-is_file_name c =
    let here = parted texts c.args.names.now c.loop-name.name-index c.name-item.result c.loop-name-test.true in
    (λ yes. (c.as_bytes.result.now, has_at _ _ _ c.as_bytes.result.now _ here (ap string_bytes (sym c.name-item.is) ∙ sym c.as_bytes.ensures.value), c.is_file_name.ensures.0 c.if-is_file_name.true), λ h. refl)

pub loop-name-preserved : goal.loop-name-preserved
loop-name-preserved c =
    none_more _ _ _ (one_more texts c.args.names.now c.loop-name.name-index c.name-item.result c.loop-name-test.true) c.loop-name.invariant (λ f. false≢true (sym c.if-is_file_name.false ∙ c.is_file_name.ensures.1 (subst IsFileName (sym (c.as_bytes.ensures.value ∙ ap string_bytes c.name-item.is)) f)))

pub returns : goal.returns
returns c = (λ no. absurd cc, λ h. absurd (c.loop-name.invariant (subst (λ names. HasTable (map string_bytes names)) (sym (take_all c.loop-name.name-index c.args.names.now (omega arith))) h)))
