pub mod Faults
pub mod Folders
pub mod Settled
pub mod Reads
pub mod Laws
pub mod Inside
