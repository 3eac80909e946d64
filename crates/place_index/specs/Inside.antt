-- Invariants of values and intermediate results of functions. Private clauses alone cite them.
pub mod Arranged
pub mod Arrangements
pub mod GroupSizes
pub mod Groups
pub mod Leading
pub mod LookUp
pub mod NameKeys
pub mod ShapeFields
pub mod ShortLists
pub mod Turned
pub mod TurnedMen
pub mod Turns
