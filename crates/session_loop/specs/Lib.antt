pub mod Machine
pub mod Instants
pub mod Outcome
pub mod Saying
pub mod Headline
