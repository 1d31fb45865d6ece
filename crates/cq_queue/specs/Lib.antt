pub mod Entries
pub mod Parts
pub mod within
