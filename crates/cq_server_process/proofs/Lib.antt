pub mod Answering
pub mod Sending
pub mod Turning
