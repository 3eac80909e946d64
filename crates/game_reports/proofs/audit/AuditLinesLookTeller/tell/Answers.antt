use Rattle.game_reports.proofs.audit.AuditLinesLookTeller.tell.Goals as goal

pub returns-clause-told : goal.returns-clause-told
returns-clause-told c = (c.in_ok-audit.audit, c.in_ok-audit.ensures.told, c.audit_told.ensures)
