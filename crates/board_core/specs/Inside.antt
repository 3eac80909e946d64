-- Invariants of values and intermediate results of functions. Private clauses alone cite them.
pub mod Coding
pub mod Search
pub mod EmptyBoard
pub mod Census
pub mod Material
