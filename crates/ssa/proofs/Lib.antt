pub mod Asks
pub mod Turns
pub mod Runs
pub mod Uses
pub mod Seals
