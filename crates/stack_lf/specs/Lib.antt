pub mod Tries
pub mod Effects
pub mod Sides
pub mod Bounds
pub mod Notes
pub mod OwnLaws
pub mod Remaining
