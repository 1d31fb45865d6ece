pub mod Moments
pub mod Acting
pub mod Turning
pub mod Answering
pub mod Numbering
pub mod Leaving
pub mod Coming
pub mod Bringing
pub mod Streams
pub mod Running
pub mod Joining
mod Examples
