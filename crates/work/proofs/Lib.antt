pub mod Pops
