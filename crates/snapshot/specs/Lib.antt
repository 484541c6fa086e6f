pub mod AllFaults
pub mod Closing
pub mod Faults
pub mod Lost
pub mod Places
pub mod Snapshots
pub mod inside
