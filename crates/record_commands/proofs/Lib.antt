pub mod AuditAgreementLaws
