pub mod Can
pub mod Owns
