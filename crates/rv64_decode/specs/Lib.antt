pub mod Atomics
pub mod Operands
pub mod Serial
pub mod Table
