pub mod Lines
pub mod Seconds
pub mod Texts
pub mod Walks
