pub mod Choices
pub mod Going
pub mod Stored
pub mod Lone
pub mod Made
pub mod Tied
pub mod Turns
