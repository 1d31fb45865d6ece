pub mod Begun
pub mod Entries
pub mod Moments
pub mod Answered
pub mod Settled
pub mod Chains
