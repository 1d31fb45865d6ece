-- lines, and their values
pub mod Lines
pub mod Grammars
-- reading them
pub mod Progress
pub mod Texts
-- faults, readers and writers
pub mod Faults
pub mod Checks
pub mod within
