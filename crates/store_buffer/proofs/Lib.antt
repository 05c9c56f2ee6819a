pub mod CoveredLaws
pub mod LineBits
pub mod LineChains
pub mod LineFirst
pub mod LineMaps
pub mod LineNumbers
pub mod LineOrder
pub mod LoadsOver
