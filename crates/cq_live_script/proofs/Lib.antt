-- worked lines
pub mod Examples
