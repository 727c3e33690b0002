pub mod Ends
pub mod Limits
pub mod Steps
pub mod Streams
pub mod Taken
