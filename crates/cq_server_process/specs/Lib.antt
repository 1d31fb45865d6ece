pub mod Turns
pub mod Rounds
pub mod Answers
pub mod Processes
