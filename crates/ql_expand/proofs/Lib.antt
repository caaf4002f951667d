pub mod Assembles
pub mod Counts
pub mod Examples
pub mod FaultKinds
pub mod Fine
pub mod Gathering
pub mod Levels
pub mod Making
pub mod Programs
mod TopForms
pub mod Unique
