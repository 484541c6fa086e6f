-- For proofs and the inside of types only. No public clause cites these modules.
pub mod Acting
pub mod Bits
pub mod Changes
pub mod Cloning
pub mod Ending
pub mod ForeignSteps
pub mod Kept
pub mod Turns
pub mod Twins
