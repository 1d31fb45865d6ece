pub mod Lines
pub mod within
