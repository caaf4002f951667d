pub mod GenText
