use Rattle.std.proofs.Common.{◌≡◌, ◌∙◌, map, sym, ap, subst, inr, Err}
use Rattle.judge_core.specs.Tables.{Holding}
use Rattle.relay_world.specs.Gathering.{filled_unless_faulty, found_in, tables_from}
use Rattle.relay_world.proofs.gathering.gather.Goals as goal

pub returns-in-Ok-Err-clause-err : goal.returns-in-Ok-Err-clause-err
returns-in-Ok-Err-clause-err c =
    let rest = map found_in (map (λ f. record { name = f.0.now; bytes = f.1.now }) c.args.files.now) in
    let told : Err c.in-Ok-Err.fault ≡ tables_from c.in-Ok.set.tables 0 rest = subst (λ r. filled_unless_faulty r c.add_all.new.set.tables ≡ tables_from c.in-Ok.set.tables 0 rest) c.in-Ok-Err.field-0-is c.in-Ok-Err.ensures.tables in
    inr (sym (told ∙ ap (λ (s : Holding). tables_from s.tables 0 rest) c.in-Ok.ensures))
