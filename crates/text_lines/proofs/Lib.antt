pub mod Examples
pub mod LineEnds
pub mod Lines
pub mod OpenLines
pub mod Texts
