pub mod LineLaws
pub mod ObjectLaws
pub mod ReportLaws
