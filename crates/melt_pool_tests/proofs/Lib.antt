mod Resting
mod Starting
