pub mod CommandLine
pub mod ArgFaults
