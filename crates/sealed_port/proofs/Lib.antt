pub mod HexDigits
pub mod KeyLines
pub mod KeyedLaws
pub mod Masks
pub mod Opening
pub mod Sealings
pub mod Tags
