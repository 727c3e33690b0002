pub mod Examples
pub mod HeadLines
