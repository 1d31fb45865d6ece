pub mod Faults
pub mod Links
pub mod Tags
pub mod Inboxes
pub mod Memories
pub mod within
pub mod Wirings
pub mod Clients
