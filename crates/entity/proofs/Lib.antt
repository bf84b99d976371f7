pub mod Laws
pub mod Packing
