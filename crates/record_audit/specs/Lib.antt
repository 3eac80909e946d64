pub mod Findings
pub mod Inside
