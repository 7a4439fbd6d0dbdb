-- What the words of the program stand for.
pub mod Asked
pub mod Words
