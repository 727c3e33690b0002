pub mod Fronts
pub mod Opened
pub mod States
pub mod Steps
pub mod Told
