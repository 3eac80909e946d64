-- Intermediate results of functions. Private clauses alone cite them.
pub mod Parts
pub mod Importing
pub mod HostParts
