pub mod MessageLaws
pub mod PieceLaws
pub mod Examples
pub mod Writing
pub mod Passing
