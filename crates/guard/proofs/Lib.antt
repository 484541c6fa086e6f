pub mod Keeping
pub mod Since
pub mod Workers
pub mod Steps
pub mod Bulk
pub mod Filling
