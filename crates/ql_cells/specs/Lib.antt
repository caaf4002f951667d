pub mod Cells
pub mod Making
pub mod Names
