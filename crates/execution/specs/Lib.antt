pub mod Executions
pub mod Progressing
pub mod Runs
pub mod Telling
