pub mod Keeping
pub mod Guards
pub mod Between
