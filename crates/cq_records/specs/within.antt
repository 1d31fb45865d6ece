-- What only the private functions cite.
pub mod Blanks
pub mod Batches
