pub mod CheckTables
pub mod CheckWalk
pub mod Compilable
pub mod Scope
pub mod Scoped
pub mod Stored
