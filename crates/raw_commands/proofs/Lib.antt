mod Braces
pub mod Bytes
mod Examples
pub mod Feeds
pub mod Pieces
pub mod Runs
