pub mod Known
pub mod Replies
