pub mod Tree
pub mod Room
pub mod Kept
pub mod Kill
pub mod Spawning
pub mod Persons
pub mod Joined
