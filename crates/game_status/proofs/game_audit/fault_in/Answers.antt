use Rattle.std.proofs.Common.{sym, ◌∙◌}
use Rattle.game_status.proofs.GameLaws.{whole_so}
use Rattle.game_status.proofs.game_audit.fault_in.Goals as goal

pub returns-then-is_whole-clause-none : goal.returns-then-is_whole-clause-none
returns-then-is_whole-clause-none c =
    rw c.in-Some.is (whole_so c.args.start.now c.args.set.now.tables c.in-Some.record c.in_ok-finding.finding (sym c.is_whole.ensures ∙ c.if-is_whole.true) c.in_ok-finding.ensures.own c.in_ok-finding.ensures.found)
