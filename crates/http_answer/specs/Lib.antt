pub mod Files
pub mod Games
pub mod Inside
pub mod Places
pub mod Queries
pub mod Replies
pub mod Times
pub mod Reads
