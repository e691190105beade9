pub mod Runs
pub mod Visits
pub mod VisitLaws
pub mod ReadLaws
pub mod SweepLaws
