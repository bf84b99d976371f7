pub mod Asked
pub mod Answered
