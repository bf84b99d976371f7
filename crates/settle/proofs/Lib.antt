pub mod Resolves
pub mod Judges
pub mod Feeds
pub mod Settles
