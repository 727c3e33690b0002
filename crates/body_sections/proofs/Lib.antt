mod Examples
mod FieldEnds
mod Fronts
mod Held
mod NeedLaws
mod Only
mod Partials
mod Writing
