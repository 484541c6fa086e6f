pub mod Readings
pub mod Tallies
pub mod Told
