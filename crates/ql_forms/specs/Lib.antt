pub mod Bytes
pub mod Form
pub mod FormText
pub mod Numbered
pub mod Spelled
pub mod Spells
pub mod View
