pub mod Reports
pub mod Requests
pub mod Replayed
pub mod Outcomes
pub mod Cuts
pub mod Standing
pub mod Telling
pub mod LogReports
