-- What only the private functions cite.
pub mod Readers
pub mod Room
