pub mod Run
pub mod Use
