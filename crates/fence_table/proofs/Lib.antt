mod Chains
mod Lists
