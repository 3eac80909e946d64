pub mod GameSeats
pub mod Seats
pub mod Values
pub mod Sending
pub mod Begun
