pub mod Chain
pub mod Walk
pub mod Number
pub mod Held
pub mod Keeping
pub mod Text
