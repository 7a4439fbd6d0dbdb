pub mod Apart
pub mod Needs
pub mod Reserved
