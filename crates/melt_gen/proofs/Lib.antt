mod Branches
mod InLimits
mod Lengths
mod Writing
