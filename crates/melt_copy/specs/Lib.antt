pub mod Moving
pub mod Copying
pub mod Tracking
pub mod Copied
pub mod Reaching
pub mod Settling
pub mod Visits
pub mod Evacuating
