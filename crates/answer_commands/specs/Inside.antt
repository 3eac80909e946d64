-- Intermediate results of functions. Private clauses alone cite them.
pub mod Answering
pub mod Fronts
pub mod Streaming
pub mod Running
pub mod Looking
pub mod StoreReading
pub mod Entering
pub mod Sending
