-- Intermediate results of functions. Private clauses alone cite them.
pub mod Scan
pub mod Movers
pub mod Written
