pub mod Checksums
