mod Examples
mod Told
mod LiveTold
mod KeptTold
mod ProcessTold
