pub mod Debuggees
pub mod Debugged
