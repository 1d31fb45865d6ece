-- lines in
pub mod Events
pub mod Line
pub mod Lines
-- what a script does
pub mod Output
pub mod Runs
pub mod Replays
pub mod Sessions
pub mod Resumed
pub mod Laws
-- refusals of lines
pub mod Faults
pub mod within
