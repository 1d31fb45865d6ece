-- What the contracts of `Sim` rest on.
pub mod Alone
pub mod FirstWorld
pub mod Joining
pub mod LinksKept
pub mod Meanings
pub mod LinkKeys
pub mod Refused
pub mod Remaining
pub mod RunSteps
pub mod Stands
pub mod Calls
pub mod Taking
