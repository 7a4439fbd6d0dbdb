pub mod Text
pub mod Words
pub mod Parses
pub mod Command
pub mod Headline
