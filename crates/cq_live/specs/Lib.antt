pub mod Reports
pub mod within
pub mod Faults
pub mod Lives
pub mod Plans
pub mod Ended
