-- What only the private functions cite.
pub mod Begun
pub mod Room
pub mod Contents
pub mod Readers
