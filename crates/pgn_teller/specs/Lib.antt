pub mod Ratings
pub mod GameLines
pub mod GameObjects
pub mod Reports
pub mod Inside
