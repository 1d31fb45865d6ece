mod Added
mod Gathered
mod Listed
pub mod Readings
mod Reasons
mod Refused
mod Restored
pub mod Rewritten
