pub mod Histories
pub mod Transcripts
pub mod Sums
pub mod AliveObjects
pub mod AliveSums
