-- What private functions write, and what they may ask for.
pub mod Members
pub mod Playing
