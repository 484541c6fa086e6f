-- For proofs and the inside of types only. No public clause cites these modules.
pub mod Looks
pub mod Own
pub mod SitePool
pub mod TwinSite
pub mod TwinStates
