-- What only the private functions cite.
pub mod Advances
pub mod Settled
