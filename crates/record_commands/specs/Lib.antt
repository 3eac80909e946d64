pub mod Audits
pub mod Record
pub mod Audit
pub mod AuditAgreements
