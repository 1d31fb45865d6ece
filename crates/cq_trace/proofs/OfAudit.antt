-- What the contracts of audits rest on.
pub mod Lists
pub mod GoodTraces
pub mod OneParty
pub mod Following
pub mod Leftovers
pub mod Rounds
