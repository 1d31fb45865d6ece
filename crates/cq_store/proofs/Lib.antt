pub mod AsksStand
pub mod ClientsStand
pub mod Copies
pub mod Lookups
pub mod Parts
pub mod QueuesStand
mod Examples
pub mod FreshOutcomes
pub mod StoreStands
pub mod OfLaws
