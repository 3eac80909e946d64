-- Intermediate results of functions. Private clauses alone cite them.
pub mod Seating
pub mod HeldReplies
pub mod Running
