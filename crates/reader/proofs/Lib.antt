pub mod Known
pub mod Agree
pub mod Shown
pub mod Marks
