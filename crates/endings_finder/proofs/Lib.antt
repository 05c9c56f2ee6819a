mod Confirmed
mod Fenced
mod Fresh
mod Needs
mod Nop
mod Opened
mod Same
mod Whole
