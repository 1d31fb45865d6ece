pub mod Laws
pub mod Stands
pub mod within
