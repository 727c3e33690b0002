pub mod Appends
pub mod BufferLaws
pub mod Putting
pub mod Replies
pub mod Short
pub mod Sinks
pub mod Texts
