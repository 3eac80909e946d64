pub mod Notations
pub mod Laws
