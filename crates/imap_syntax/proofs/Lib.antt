pub mod Bounds
pub mod CommandLaws
mod Examples
pub mod KeyParts
pub mod Laws
pub mod Remainders
pub mod Unwinding
