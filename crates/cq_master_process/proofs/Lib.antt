pub mod Acting
pub mod Answered
pub mod Cores
pub mod Counting
mod Examples
pub mod Left
pub mod Puts
pub mod Steps
pub mod Told
pub mod Turns
