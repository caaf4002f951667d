pub mod Above
pub mod Added
pub mod Cases
pub mod Collected
mod Compilable
mod FaultKinds
pub mod Listed
