pub mod Simulated
pub mod Sparse
