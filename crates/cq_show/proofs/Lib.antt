pub mod Loops
pub mod Unknown
