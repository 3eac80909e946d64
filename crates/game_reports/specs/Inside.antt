-- Intermediate results of functions. Private clauses alone cite them.
pub mod StoreReading
pub mod Opening
pub mod Looking
pub mod Reporting
pub mod Asking
