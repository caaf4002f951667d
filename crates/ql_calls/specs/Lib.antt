pub mod Calls
pub mod Room
pub mod Sending
pub mod Taking
pub mod Unanswered
pub mod Facts
