pub mod Examples
pub mod MetaLines
pub mod MetaTexts
pub mod NameTexts
pub mod StatusTexts
