pub mod TellLaws
pub mod FailLaws
