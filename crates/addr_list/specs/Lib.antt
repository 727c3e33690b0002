pub mod Addresses
pub mod Readers
pub mod Reading
pub mod Scanning
pub mod Tokens
