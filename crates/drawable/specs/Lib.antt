pub mod Fits
pub mod Drawable
