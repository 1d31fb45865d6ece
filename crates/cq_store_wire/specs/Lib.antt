pub mod Bodies
pub mod Building
pub mod Chunks
pub mod Laws
pub mod Layout
pub mod Limits
pub mod Order
pub mod Reading
