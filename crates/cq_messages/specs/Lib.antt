pub mod Changes
pub mod Slots
pub mod Ordered
pub mod within
