pub mod Keys
pub mod Needs
pub mod Texts
pub mod Told
