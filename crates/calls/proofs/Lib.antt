pub mod Logs
pub mod Calls
