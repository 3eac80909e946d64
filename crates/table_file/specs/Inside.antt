-- Invariants of values and intermediate results of functions. Private clauses alone cite them.
pub mod Checked
pub mod Writing
pub mod Kept
pub mod Places
pub mod KeptPart
pub mod OpenedParts
pub mod Opened
pub mod Opening
