pub mod StayData
pub mod StayText
pub mod Stays
pub mod inside
