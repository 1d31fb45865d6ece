mod Commits
pub mod Frames
mod Framing
mod Gates
mod Heads
pub mod Outcomes
mod Examples
pub mod Torn
mod Zeros
mod Steps
