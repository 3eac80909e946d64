use Rattle.std.proofs.Common.{◌≡◌, rules, ℕ, subst}
use Rattle.std.proofs.lemmas.Result.{IfOk-weaker}
use Rattle.board_core.specs.declared.parts.Parts.{Parts}
use Rattle.record_audit.proofs.AuditLaws.{by_game}
use Rattle.record_audit.proofs.auditing.judge_record.Goals as goal

pub returns-clause-found : goal.returns-clause-found
returns-clause-found c =
    let a = c.args.auditor.now in
    let stamp : c.args.kept.now.stamp ≡ a.stamp = search rules in
    let delay : c.args.kept.now.delay ≡ a.delay = search rules in
    IfOk-weaker c.judge_moves.result _ _ (λ finding h. λ bytes spelled. by_game a.start a.set.tables c.args.kept.now a.stamp a.delay bytes finding stamp delay (h bytes spelled)) c.judge_moves.ensures.found
