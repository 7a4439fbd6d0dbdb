pub mod Chains
pub mod Listed
pub mod Numbers
pub mod Places
pub mod Rings
pub mod Standing
