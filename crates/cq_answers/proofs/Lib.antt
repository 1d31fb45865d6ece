pub mod Floats
pub mod Joined
pub mod Plain
pub mod Examples
pub mod Sending
