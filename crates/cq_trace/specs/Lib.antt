pub mod Audits
pub mod Faults
pub mod within
