pub mod Counting
pub mod Materials
pub mod Shapes
pub mod Turns
pub mod Indices
pub mod LookUp
