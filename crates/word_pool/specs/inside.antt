-- For proofs and the inside of types only. No public clause cites these modules.
pub mod Closing
pub mod Crews
pub mod Joins
pub mod Kept
pub mod KeptParcel
pub mod TwinCrews
pub mod TwinKept
