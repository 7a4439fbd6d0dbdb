pub mod Fronts
pub mod Images
pub mod Runs
pub mod Told
pub mod WordBytes
