pub mod Pieces
pub mod Whole
pub mod Playing
pub mod ApiDepth
pub mod Precise
pub mod ByRoot
