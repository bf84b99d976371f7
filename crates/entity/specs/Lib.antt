pub mod Limits
pub mod Types
pub mod Options
pub mod Described
pub mod Host
