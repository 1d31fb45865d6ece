-- What only the private functions cite.
pub mod Contents
pub mod Dumps
pub mod Entries
pub mod Looks
pub mod Runs
pub mod Told
pub mod Unmade
