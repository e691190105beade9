pub mod TestLaws
pub mod VisitRefusalLaws
