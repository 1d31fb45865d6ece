-- The laws of the queue object, each from what happens entry by entry.
pub mod Alike
pub mod Alone
pub mod FirstHandings
pub mod Flights
pub mod Prefixes
pub mod Groups
pub mod Incarnations
pub mod Inductions
pub mod Lasts
pub mod Listed
pub mod Lives
pub mod OneQueue
pub mod Ranks
pub mod Receipts
pub mod Repeats
pub mod Sorted
pub mod Windows
