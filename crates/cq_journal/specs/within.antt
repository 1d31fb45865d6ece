-- What only the private functions cite.
pub mod Turns
pub mod Bounds
pub mod Refreshed
pub mod Outside
pub mod FreeBeside
pub mod Reads
