pub mod Commands
pub mod Keys
pub mod Laws
pub mod Meanings
pub mod Stack
pub mod Stamps
pub mod Verbs
