pub mod Carrying
pub mod Coherence
pub mod Exactness
mod Firsts
pub mod KindBounds
