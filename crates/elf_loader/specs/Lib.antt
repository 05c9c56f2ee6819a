pub mod Causes
pub mod Elf
pub mod ElfCauses
pub mod ElfTests
pub mod Image
pub mod Segments
pub mod Offsets
pub mod Symbols
