pub mod BytesSeen
pub mod Seeing
pub mod EventsTell
