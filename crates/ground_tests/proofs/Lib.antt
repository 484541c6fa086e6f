pub mod Seeing
pub mod Segs
