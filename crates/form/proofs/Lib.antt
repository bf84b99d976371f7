pub mod Values
pub mod Params
pub mod Variables
pub mod Defined
pub mod Logs
