pub mod Told
pub mod Agrees
pub mod Written
pub mod San
pub mod Laws
pub mod Inside
