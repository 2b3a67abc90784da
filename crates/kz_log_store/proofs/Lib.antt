mod Reading
mod Frames
mod Opening
mod Changing
mod Stepping
