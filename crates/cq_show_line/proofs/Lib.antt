pub mod Floats
pub mod Sending
