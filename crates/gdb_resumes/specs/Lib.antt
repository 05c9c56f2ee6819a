pub mod Searches
pub mod Goals
pub mod Resumes
