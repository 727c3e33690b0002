pub mod Blanks
pub mod Fields
pub mod Folding
pub mod Header
pub mod Searches
