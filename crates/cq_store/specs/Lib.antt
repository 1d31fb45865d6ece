pub mod Stands
pub mod Parts
pub mod Laws
pub mod Ranks
pub mod within
