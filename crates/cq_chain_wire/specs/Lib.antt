pub mod Feeding
pub mod Laws
pub mod Layout
pub mod Limits
pub mod Pieces
pub mod Reading
