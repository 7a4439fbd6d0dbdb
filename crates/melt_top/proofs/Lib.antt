mod Clapping
mod Completing
mod Found
mod Parsing
mod Sums
pub mod TopLaws
