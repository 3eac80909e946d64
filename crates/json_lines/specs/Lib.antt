pub mod Members
pub mod Objects
pub mod Told
pub mod ApiTold
pub mod Api
pub mod Inside
