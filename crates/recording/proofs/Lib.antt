mod Rows
pub mod Laws
pub mod Whole
pub mod Loops
pub mod Read
pub mod Written
pub mod Counted
