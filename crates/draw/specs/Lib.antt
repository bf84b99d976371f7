pub mod Seen
pub mod Draws
