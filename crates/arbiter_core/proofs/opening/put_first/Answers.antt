use Rattle.std.proofs.Common.{◌≡◌, sym, subst}
use Rattle.move_msg.specs.declared.record_bytes.Record.{Record}
use Rattle.arbiter_core.specs.Opens.{first_record}
use Rattle.arbiter_core.specs.Setups.{rules_at, terms_with}
use Rattle.arbiter_core.specs.Inside.Playing.{IsPlayedRecord, played_of}
use Rattle.arbiter_core.specs.Inside.Starting.{identity_by, recorded_by}
use Rattle.arbiter_core.proofs.Opened.{put_fails}
use Rattle.arbiter_core.proofs.opening.put_first.Goals as goal

pub returns-in-Err-clause-put : goal.returns-in-Err-clause-put
returns-in-Err-clause-put g c =
    let setup = terms_with c.args.terms.now c.args.tables.now in
    let first = subst (λ (r : Record). IsPlayedRecord setup c.args.stamp (played_of r c.in-Ok.standing) × (recorded_by r ≡ first_record (rules_at setup))) (sym c.in-Ok-of.ensures) c.in-Ok.ensures.ok in
    put_fails g.K.Keeper.facts setup (identity_by c.args.terms.now c.args.stamp) c.args.keeper.now c.put.new.self c.as_bytes.result.now (played_of c.in-Ok-of.record c.in-Ok.standing) _
    c.in-Err.ensures.outcome c.in-Err.ensures.cause first c.as_bytes.ensures.spelled c.as_bytes.ensures.written c.in-Err.ensures.once
