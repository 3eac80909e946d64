pub mod NameLaws
pub mod LookLaws
pub mod ReadLaws
pub mod InputReadLaws
pub mod TurnLaws
