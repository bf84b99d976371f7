pub mod Cells
pub mod Declared
pub mod Changes
pub mod Session
