pub mod Ranges
pub mod Firsts
pub mod Asks
pub mod Joining
pub mod Examples
