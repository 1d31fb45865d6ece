pub mod Deeds
pub mod Passing
pub mod Streams
pub mod Runs
pub mod Laws
