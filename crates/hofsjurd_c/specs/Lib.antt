pub mod Beginning
pub mod Owned
