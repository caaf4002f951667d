pub mod ByteClass
pub mod Numbering
pub mod Scan
pub mod TextFault
pub mod Told
pub mod View
pub mod Taken
