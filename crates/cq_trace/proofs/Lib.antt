pub mod OfAudit
pub mod OfLaws
pub mod Examples
