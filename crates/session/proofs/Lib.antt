pub mod Fits
pub mod Determined
