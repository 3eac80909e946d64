-- Invariants of values and intermediate results of functions. Private clauses alone cite them.
pub mod Layouts
pub mod Counts
pub mod Windows
pub mod Hints
pub mod Runs
pub mod Kept
pub mod Nodes
pub mod Words
pub mod Tables
