pub mod Atoms
pub mod Digits
mod Examples
pub mod Exits
pub mod Laws
pub mod Lists
pub mod NonZero
pub mod PartSteps
pub mod Remainders
pub mod Steps
