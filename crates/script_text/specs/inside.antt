-- For the crate's own functions and proofs. No public clause cites these modules.
pub mod Agreement
pub mod CommandReading
pub mod PutInReading
pub mod Reading
pub mod ScriptReading
pub mod StepReading
