-- the frames of an input
pub mod Cutting
pub mod Laws
-- what is told of them
pub mod Chains
pub mod Loops
pub mod Writes
pub mod Settling
pub mod within
