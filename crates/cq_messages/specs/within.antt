-- What the clauses of private functions cite. Nobody who calls this crate has to read it.
pub mod Gathered
pub mod Groups
pub mod Indexed
pub mod Offered
pub mod Opened
pub mod Passing
pub mod Touched
