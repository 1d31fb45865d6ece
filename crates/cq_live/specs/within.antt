-- What the clauses of private functions cite. Nobody who calls this crate has to read it.
pub mod Making
pub mod Chains
pub mod Runs
pub mod Adding
pub mod Aparts
