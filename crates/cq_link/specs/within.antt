-- What the clauses of private functions cite. Nobody who calls this crate has to read it.
pub mod Rules
pub mod Tables
pub mod Ends
