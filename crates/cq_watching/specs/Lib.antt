pub mod Coming
pub mod Watching
