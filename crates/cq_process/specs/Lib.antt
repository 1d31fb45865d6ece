pub mod Asking
pub mod Faults
pub mod Laws
pub mod Links
pub mod Outgoing
pub mod Putting
pub mod Taking
