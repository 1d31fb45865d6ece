pub mod Firsts
pub mod Packing
pub mod within
