use Rattle.std.proofs.Common.{refl, inl}
use Rattle.arbiter_core.specs.Setups.{terms_with}
use Rattle.arbiter_core.proofs.Opened.{no_record, read_err, read_ok}
use Rattle.arbiter_core.proofs.opening.resume.Goals as goal

pub returns-in-Ok-clause-ok : goal.returns-in-Ok-clause-ok
returns-in-Ok-clause-ok c = read_ok (terms_with c.args.terms.now c.args.tables.now) c.args.stamp c.args.bytes.now c.in-Ok.record c.in-Ok.ensures.ok c.go_on_from.result c.go_on_from.ensures.ok

pub returns-in-Ok-clause-err : goal.returns-in-Ok-clause-err
returns-in-Ok-clause-err c = read_err (terms_with c.args.terms.now c.args.tables.now) c.args.stamp c.args.bytes.now c.in-Ok.record c.in-Ok.ensures.ok c.go_on_from.result c.go_on_from.ensures.err

pub returns-in_default : goal.returns-in_default
returns-in_default c = record {
  same = refl;
  ok = tt;
  err = inl (no_record c.args.bytes.now c.read.result c.in-Err.fault c.in-Err.is c.in_default.not-OutOfMemory c.read.ensures.only);
}
