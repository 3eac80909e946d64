use Rattle.std.proofs.Common.{sym, ap, ◌∙◌, subst}
use Rattle.std.proofs.lemmas.List.{take_all}
use Rattle.std.specs.List.{Contains}
use Rattle.table_folder.proofs.Naming.{lacks_next, other_bytes}
use Rattle.table_folder.proofs.folder.TableFolder.listed.Goals as goal

pub loop-listed-preserved : goal.loop-listed-preserved
loop-listed-preserved g c =
    lacks_next _ _ c.args.name.now c.listed-item.result c.loop-listed-test.true c.loop-listed.invariant
    (λ same. other_bytes _ _ (sym c.eq.ensures ∙ c.if-eq.false) (c.as_str.ensures.text ∙ c.listed-item.is ∙ same))

pub returns-clause-none : goal.returns-clause-none
returns-clause-none g c = λ h.
    let names = c.as_slice-listed-items.ensures.value ∙ ap (λ v. v.folder.names) c.self.view_is in
    c.loop-listed.invariant (subst (λ ns. Contains ns c.args.name.now) (sym names ∙ sym (take_all c.loop-listed.listed-index _ c.loop-listed-test.false)) h)
