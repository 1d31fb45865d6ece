pub mod PartLaws
pub mod CommandLaws
pub mod ResponseLaws
pub mod Examples
pub mod StreamLaws
