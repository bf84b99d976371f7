pub mod Walk
pub mod Find
