pub mod Bytes
pub mod Places
pub mod Plans
pub mod Scans
pub mod Texts
