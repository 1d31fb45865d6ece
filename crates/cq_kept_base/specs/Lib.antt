pub mod Examples
pub mod Stuffed
pub mod Stuffing
pub mod Writing
