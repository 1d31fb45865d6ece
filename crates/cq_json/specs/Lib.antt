pub mod Fields
pub mod Receipts
pub mod Asks
pub mod Readers
pub mod Keys
pub mod Flat
pub mod within
