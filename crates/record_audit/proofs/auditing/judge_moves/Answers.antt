use Rattle.std.proofs.Common.{length, refl, subst}
use Rattle.board_core.specs.declared.moves.Move.{Move}
use Rattle.std.proofs.Common.{List}
use Rattle.judge_core.specs.Games.{IsOutcome}
use Rattle.record_audit.specs.Inside.Auditing.{IsFoundBy}
use Rattle.record_audit.specs.Findings.{rules_with}
use Rattle.record_audit.proofs.AuditLaws.{found_so, own_so}
use Rattle.record_audit.proofs.auditing.judge_moves.Goals as goal

pub returns-clause-found : goal.returns-clause-found
returns-clause-found c = λ bytes spelled.
    let r = c.args.kept.now in
    let rules = rules_with c.args.start.now c.args.set.now.tables r in
    let moves = c.as_slice-moves.ensures.moves in
    let o = c.in_ok-outcome.outcome in
    let outcome = subst (λ (ms : List Move). IsOutcome rules ms o) moves c.in_ok-outcome.ensures.value in
    let found = subst (λ (ms : List Move). IsFoundBy o (length ms) r.verdict c.found_by.result) moves c.found_by.ensures in
    found_so rules r.stamp bytes r o c.found_by.result spelled (refl, refl) outcome found

pub returns-clause-own : goal.returns-clause-own
returns-clause-own c =
    let r = c.args.kept.now in
    own_so r c.in_ok-outcome.outcome c.found_by.result (subst (λ (ms : List Move). IsFoundBy c.in_ok-outcome.outcome (length ms) r.verdict c.found_by.result) c.as_slice-moves.ensures.moves c.found_by.ensures)
