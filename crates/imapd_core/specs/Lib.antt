pub mod Runs
pub mod Promises
pub mod Statuses
pub mod Opening
