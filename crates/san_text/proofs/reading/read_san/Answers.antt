use Rattle.std.proofs.Common.{◌≡◌, None, Err, sym, ap, ◌∙◌}
use Rattle.san_text.specs.declared.fault.SanFault.{SanFault}
use Rattle.san_text.specs.Inside.Scan.{told_by_text}
use Rattle.san_text.proofs.SpellingLaws.{read_spelled}
use Rattle.san_text.proofs.Answered.{Answered, bad_text, bad_fault, ok_clause, err_clause, only_clause, only_fault_clause, written_reads}
use Rattle.san_text.proofs.reading.read_san.Goals as goal

nothing : (c : goal.In_default) → told_by_text c.args.text.now ≡ None
nothing c = sym c.told_by_text.ensures ∙ c.in_default.is

pub returns-in_default-clause-err : goal.returns-in_default-clause-err
returns-in_default-clause-err c = bad_text c.args.text.now (nothing c)

pub returns-in_default-clause-only : goal.returns-in_default-clause-only
returns-in_default-clause-only c = λ m r. absurd (bad_text c.args.text.now (nothing c) r.told r.spells)

pub returns-in_default-clause-only_fault : goal.returns-in_default-clause-only_fault
returns-in_default-clause-only_fault c = λ fault h. ap (λ (x : SanFault). Err x) (bad_fault c.args.position.now c.args.text.now (nothing c) fault h)

pub returns-in_default-clause-written : goal.returns-in_default-clause-written
returns-in_default-clause-written c = λ m l e.
    let r = written_reads c.args.position.now c.args.text.now m l e in absurd (bad_text c.args.text.now (nothing c) r.told r.spells)

answered : (c : goal.After-meant) → Answered c.args.position.now c.args.text.now c.in-Some.told c.meant.result
answered c = record {
  spells = read_spelled c.args.text.now c.in-Some.told (sym c.told_by_text.ensures ∙ c.in-Some.is);
  ok = c.meant.ensures.ok;
  only = c.meant.ensures.only;
  err = c.meant.ensures.err;
}

pub returns-clause-ok : goal.returns-clause-ok
returns-clause-ok c = ok_clause _ _ _ _ (answered c)

pub returns-clause-err : goal.returns-clause-err
returns-clause-err c = err_clause _ _ _ _ (answered c)

pub returns-clause-only : goal.returns-clause-only
returns-clause-only c = only_clause _ _ _ _ (answered c)

pub returns-clause-only_fault : goal.returns-clause-only_fault
returns-clause-only_fault c = only_fault_clause _ _ _ _ (answered c)

pub returns-clause-written : goal.returns-clause-written
returns-clause-written c = λ m l e. only_clause _ _ _ _ (answered c) m (written_reads c.args.position.now c.args.text.now m l e)
