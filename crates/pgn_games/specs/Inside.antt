-- Invariants of values and intermediate results of functions. Private clauses alone cite them.
pub mod Lines
pub mod Scan
pub mod Owned
pub mod Steps
