mod Histories
pub mod Moments
pub mod Parts
mod Past
mod Tears
mod Walks
