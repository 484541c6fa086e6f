-- How the code keeps a run of the reference model. No public clause cites this module.
pub mod Crews
pub mod Leaving
pub mod Standing
