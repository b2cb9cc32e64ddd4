pub mod Adding
pub mod Counting
pub mod Fitting
pub mod Leading
pub mod Numbering
pub mod Rooting
pub mod Standing
pub mod Taking
