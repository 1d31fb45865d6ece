-- lines and texts
pub mod Cutting
pub mod Sizes
pub mod Complete
-- reading them in chunks
pub mod Continuing
pub mod Chunks
pub mod Earlier
pub mod Endings
-- worked texts
pub mod Examples
