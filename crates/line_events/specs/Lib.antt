pub mod LineEvents
pub mod Writing
pub mod Inside
