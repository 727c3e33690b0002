pub mod Files
pub mod Forms
pub mod Reading
pub mod Writing
