mod Examples
mod Lines
mod Lengths
