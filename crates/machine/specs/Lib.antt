pub mod Answers
pub mod RoundStarts
pub mod Machine
pub mod Held
pub mod Runs
pub mod Untraced
pub mod Walks
