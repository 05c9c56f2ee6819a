pub mod OpenedRun
pub mod Told
