mod Lists
mod Outputs
mod Seen
mod Ended
