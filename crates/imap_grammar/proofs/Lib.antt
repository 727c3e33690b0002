mod Examples
pub mod Feeds
pub mod Limits
pub mod Sound
