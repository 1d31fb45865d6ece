-- The laws of the chain, each from the sentences that every event keeps.
pub mod Answering
pub mod Arriving
pub mod Giving
pub mod Quiet
pub mod Headlines
pub mod Dropped
