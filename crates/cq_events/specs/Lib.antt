pub mod Worlds
pub mod Owners
pub mod Events
pub mod Runs
pub mod Orders
pub mod Actions
pub mod Acts
