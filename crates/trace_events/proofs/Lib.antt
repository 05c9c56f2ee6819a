pub mod Indexing
pub mod Walking
pub mod Entries
pub mod Chains
pub mod FlowsGrow
