pub mod Laws
pub mod Interleavings
pub mod Loading
