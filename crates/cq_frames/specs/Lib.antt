pub mod Frames
pub mod Layout
pub mod Limits
pub mod Reading
pub mod Streams
