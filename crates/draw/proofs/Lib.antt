pub mod Rows
pub mod Codes
pub mod Determined
pub mod Shown
pub mod Cases
