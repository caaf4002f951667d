pub mod Names
pub mod Outside
pub mod Memory
pub mod Limits
pub mod Kinds
pub mod Refusal
pub mod Reserved
pub mod Standard
