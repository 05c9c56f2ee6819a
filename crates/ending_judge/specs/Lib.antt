pub mod JudgedEndings
