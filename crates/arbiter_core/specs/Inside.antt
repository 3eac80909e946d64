-- Invariants of values and intermediate results of functions. Private clauses alone cite them.
pub mod Playing
pub mod Fields
pub mod AtRest
pub mod Starting
