pub mod Cores
pub mod Ends
pub mod Pieces
pub mod Takes
pub mod Throwing
pub mod Writing
