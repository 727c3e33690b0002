pub mod EntryTexts
