pub mod LaneLaws
pub mod LaneChecks
