pub mod Alike
pub mod Bisimulation
pub mod Kills
pub mod Rows
mod Texts
