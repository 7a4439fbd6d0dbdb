pub mod Unrolling
pub mod Tally
pub mod Steps
pub mod Kept
pub mod Again
pub mod Canonical
pub mod Spelled
