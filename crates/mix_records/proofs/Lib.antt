pub mod Examples
pub mod FieldTexts
pub mod RecordTexts
