pub mod Nets
pub mod Interleavings
pub mod Progress
pub mod Sources
pub mod Seals
pub mod Served
pub mod ServedWeaves
pub mod ServedStores
