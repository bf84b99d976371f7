pub mod Told
pub mod Turns
pub mod Runs
