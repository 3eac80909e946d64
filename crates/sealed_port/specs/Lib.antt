pub mod Hmac
pub mod KeyFiles
pub mod KeyedSystems
pub mod Laws
pub mod Sealing
