pub mod Texts
pub mod OverEachOther
pub mod Noted
