-- the base types
pub mod Fault
pub mod Handle
pub mod Refusals
pub mod Texts
-- words on lists
pub mod Relations
-- the queue object
pub mod queue
pub mod within
