mod Chains
mod Naming
