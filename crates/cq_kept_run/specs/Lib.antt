pub mod Faults
pub mod Reasons
pub mod Servers
pub mod within
