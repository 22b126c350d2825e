pub mod Holds
pub mod Entries
pub mod Seats
pub mod Looks
pub mod Created
