pub mod Memories
pub mod MemoryLaws
