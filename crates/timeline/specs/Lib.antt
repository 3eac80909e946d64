pub mod Events
pub mod Outsides
pub mod Machines
pub mod MachineLaws
