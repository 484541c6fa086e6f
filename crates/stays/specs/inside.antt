-- For the crate's own functions and proofs. No public clause cites these modules.
pub mod JsonLine
pub mod Knowing
