pub mod Audited
pub mod Findings
pub mod Report
pub mod Runs
