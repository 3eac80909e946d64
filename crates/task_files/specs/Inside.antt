-- Intermediate results of functions. Private clauses alone cite them.
pub mod Placing
pub mod Readings
