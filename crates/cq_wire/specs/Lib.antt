pub mod Layout
pub mod Limits
pub mod Reading
pub mod Faults
pub mod Laws
pub mod Written
pub mod within
