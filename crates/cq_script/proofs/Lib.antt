-- lines out
pub mod Prefixes
pub mod Outcomes
-- what lines do
pub mod RunTold
pub mod Played
pub mod Answered
pub mod Bases
-- worked lines
pub mod Examples
