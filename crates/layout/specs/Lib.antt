pub mod Cells
pub mod Rows
pub mod Layout
pub mod Counts
pub mod Offsets
pub mod Starts
pub mod Same
pub mod Outcome
