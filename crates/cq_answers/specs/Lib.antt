pub mod Answers
pub mod within
