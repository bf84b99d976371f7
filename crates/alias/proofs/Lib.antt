pub mod Pigeon
pub mod Walks
