-- For proofs and the inside of types only. No public clause cites these modules.
pub mod Shared
pub mod Rooms
