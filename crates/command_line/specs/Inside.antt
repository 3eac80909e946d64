-- Invariants of values and intermediate results of functions. Private clauses alone cite them.
pub mod Behind
pub mod HostingParts
pub mod ListeningParts
pub mod SendingParts
pub mod Putting
