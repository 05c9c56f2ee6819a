pub mod Alike
pub mod Ends
pub mod Found
pub mod Pagewise
pub mod Rounds
pub mod Turns
pub mod Runs
pub mod Seen
