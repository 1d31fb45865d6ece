-- what is shown of a world
pub mod Worlds
