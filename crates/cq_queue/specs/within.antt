-- What the clauses of private functions cite. Nobody who calls this crate has to read it.
pub mod Answers
pub mod Kept
pub mod Sound
pub mod Windows
