pub mod Lines
pub mod Reply
pub mod JsonAnswers
pub mod Asked
pub mod Printing
pub mod Looks
pub mod Refusals
