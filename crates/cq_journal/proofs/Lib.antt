pub mod Appends
mod Bases
mod Changes
mod Confirmed
pub mod Copies
mod Examples
mod Faults
mod Halves
mod Intact
mod Moves
mod OtherRegions
mod Puts
pub mod RegionLists
mod Refreshed
mod Refused
mod Refusals
mod Regions
mod Rooms
mod Steps
mod Survival
