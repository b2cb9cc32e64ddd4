pub mod Overlapping
pub mod Tried
