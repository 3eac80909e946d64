pub mod Counting
pub mod Decoding
pub mod Objects
pub mod Parting
pub mod StoreReading
pub mod Totalling
