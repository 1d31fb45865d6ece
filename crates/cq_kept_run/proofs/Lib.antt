mod Reasons
pub mod Zeros
pub mod Looked
pub mod Telling
mod Stopping
