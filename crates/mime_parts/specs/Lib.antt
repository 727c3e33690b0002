pub mod Contents
pub mod Delimiters
pub mod Marks
pub mod Parts
pub mod Readers
pub mod Values
