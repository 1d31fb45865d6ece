pub mod Counting
pub mod Packing
mod Examples
pub mod Summaries
