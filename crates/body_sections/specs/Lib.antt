pub mod PartNumbers
pub mod FieldLines
pub mod Sections
pub mod Labels
pub mod Values
pub mod Items
pub mod Needs
