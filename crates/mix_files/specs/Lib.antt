pub mod CrlfLines
pub mod Metadata
pub mod Names
pub mod Statuses
