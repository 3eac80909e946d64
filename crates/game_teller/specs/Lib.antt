pub mod Judges
pub mod Plies
pub mod Followings
pub mod Agreements
pub mod Inside
