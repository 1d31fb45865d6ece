pub mod Masters
pub mod Chains
pub mod Serving
pub mod Copies
pub mod Kept
pub mod Laws
