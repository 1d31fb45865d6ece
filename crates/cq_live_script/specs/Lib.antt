pub mod Steps
pub mod Line
pub mod Lines
