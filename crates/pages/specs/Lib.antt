pub mod Code
pub mod Flat
pub mod Initial
pub mod PagesHold
pub mod Laws
pub mod Lending
pub mod Memory
pub mod Paged
