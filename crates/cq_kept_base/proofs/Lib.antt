pub mod Escapes
pub mod Rewriting
pub mod Written
