mod Lines
mod Numerals
mod Pairs
mod Texts
