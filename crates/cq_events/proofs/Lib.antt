pub mod Parties
pub mod Numbers
