-- What functions find on the way; cited by private clauses alone.
pub mod ValueLines
