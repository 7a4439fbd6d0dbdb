mod OtherDisk
mod Untold
