pub mod Examples
pub mod Fields
pub mod Lists
pub mod Only
pub mod Writing
