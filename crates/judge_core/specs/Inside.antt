-- Invariants of values and intermediate results of functions. Private clauses alone cite them.
pub mod Found
pub mod Counts
pub mod Kept
pub mod Placing
pub mod Following
pub mod Determined
pub mod Precision
