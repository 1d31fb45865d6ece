pub mod Known
pub mod Ordering
pub mod Acting
pub mod Counting
pub mod Readies
pub mod Starts
pub mod Enabling
pub mod ByTheLog
pub mod Loading
pub mod FromStores
pub mod Bounds
mod Examples
mod LoadedExamples
