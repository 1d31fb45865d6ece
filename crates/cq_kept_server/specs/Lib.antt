pub mod Commands
pub mod Servers
pub mod Telling
pub mod Keeping
pub mod Laws
