mod Examples
pub mod Bytes
pub mod Streams
pub mod Runs
pub mod Kept
pub mod Pieces
