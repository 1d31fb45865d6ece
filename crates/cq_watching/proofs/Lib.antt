pub mod Prefixes
pub mod Coming
pub mod Adding
pub mod Whole
