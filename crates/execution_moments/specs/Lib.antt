pub mod Times
pub mod Courses
pub mod Shown
pub mod Looked
pub mod Points
pub mod Told
pub mod Laws
