pub mod Decimals
pub mod Digits
pub mod Tails
pub mod MemoryRows
pub mod Zeros
pub mod Pairs
