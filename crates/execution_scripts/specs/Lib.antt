pub mod Following
pub mod Misfits
pub mod Courses
pub mod Findings
