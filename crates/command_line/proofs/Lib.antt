pub mod AddressLaws
pub mod Clap
pub mod MisuseLaws
pub mod NearLaws
pub mod PutLaws
pub mod GamePathLaws
pub mod SendWordLaws
pub mod AuditGameLaws
