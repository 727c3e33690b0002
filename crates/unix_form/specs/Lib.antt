pub mod Form
pub mod Messages
