pub mod Framing
pub mod Overwriting
pub mod Responses
