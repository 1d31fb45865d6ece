pub mod Asked
pub mod Good
pub mod Live
mod Examples
