pub mod Sorts
pub mod Can
