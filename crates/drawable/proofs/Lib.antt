pub mod Checks
pub mod Rows
