pub mod Symbols
pub mod Codes
pub mod Blocks
pub mod Marks
pub mod Reading
pub mod Beginnings
pub mod FirstFault
pub mod Inside
