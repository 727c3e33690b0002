pub mod Appending
pub mod Bodies
pub mod Envelopes
pub mod Strings
