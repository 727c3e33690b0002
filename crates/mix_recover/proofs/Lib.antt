pub mod DataNumbers
pub mod Files
pub mod Meant
pub mod Rebuilt
pub mod Refusals
pub mod Searches
pub mod Together
pub mod WholeTexts
