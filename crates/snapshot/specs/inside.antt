-- For proofs only. No public clause cites these modules.
pub mod Adding
pub mod Breaks
pub mod Checked
pub mod Gathered
pub mod Least
pub mod Marks
pub mod Notes
pub mod Tallies
