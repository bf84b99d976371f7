pub mod Lists
pub mod Turns
