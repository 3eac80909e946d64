pub mod EventLaws
pub mod NamedLaws
