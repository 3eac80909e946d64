use Rattle.record_commands.proofs.AuditAgreementLaws.{tells_as_audit}
use Rattle.record_commands.proofs.laws.games_are_audited_alike.Goals as goal

pub returns : goal.returns
returns c = tells_as_audit
