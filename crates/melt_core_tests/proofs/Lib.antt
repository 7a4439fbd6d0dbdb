mod Moving
mod Onward
mod Starting
