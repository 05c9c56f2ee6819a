pub mod Passing
pub mod Walks
pub mod Moments
pub mod Touched
pub mod Laws
