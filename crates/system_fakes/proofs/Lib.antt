pub mod DiskLaws
pub mod RowLaws
pub mod PortLaws
