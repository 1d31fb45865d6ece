pub mod Classes
pub mod Contents
pub mod Examples
pub mod Faults
pub mod Kept
pub mod Pieces
pub mod within
