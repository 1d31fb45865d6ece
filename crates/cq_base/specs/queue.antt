-- The queue object: what each request does after those before it, in the order in which it is read.
pub mod Asks
pub mod Outcomes
pub mod Clients
pub mod Lifetimes
pub mod Messages
pub mod Receiving
pub mod Effects
pub mod History
pub mod Incarnations
