pub mod Carrying
pub mod Idle
pub mod Ready
