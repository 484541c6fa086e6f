pub mod AsModel
pub mod Locked
pub mod TwinSites
pub mod inside
