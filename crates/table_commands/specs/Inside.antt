-- Invariants of values and intermediate results of functions. Private clauses alone cite them.
pub mod LookingUp
pub mod Asking
pub mod JsonLines
pub mod Courses
pub mod Judging
pub mod Answering
