pub mod Prefixes
pub mod Keeps
pub mod Seats
pub mod Appended
