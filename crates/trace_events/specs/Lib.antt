pub mod Slices
pub mod Flows
pub mod TraceEvents
pub mod Located
pub mod Writers
