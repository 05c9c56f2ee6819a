pub mod Behind
pub mod Dependents
pub mod Orders
pub mod Rules
