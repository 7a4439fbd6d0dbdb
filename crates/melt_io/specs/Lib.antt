pub mod Lies
pub mod MemFile
pub mod Names
pub mod Outside
pub mod Whole
pub mod Words
