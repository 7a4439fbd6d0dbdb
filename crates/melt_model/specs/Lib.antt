pub mod History
pub mod Plain
pub mod Thread
pub mod Standing
pub mod Alive
pub mod Config
