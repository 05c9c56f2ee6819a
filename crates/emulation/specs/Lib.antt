pub mod Reports
pub mod OrderedRun
pub mod Showing
pub mod Visited
