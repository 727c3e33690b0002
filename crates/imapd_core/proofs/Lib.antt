pub mod InboxMade
pub mod FirstTree
pub mod Mixes
pub mod Opened
pub mod Settled
pub mod Served
