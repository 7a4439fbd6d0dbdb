pub mod Pairs
pub mod Probing
pub mod Searching
