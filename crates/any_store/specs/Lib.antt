pub mod Arms
pub mod Choice
pub mod Fronts
pub mod Large
pub mod Laws
pub mod OwnForms
pub mod Promises
pub mod Stores
