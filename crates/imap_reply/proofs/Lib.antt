pub mod Bytes
pub mod Examples
pub mod Lines
pub mod Putting
pub mod Steps
