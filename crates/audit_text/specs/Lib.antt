pub mod FaultData
pub mod FaultNumbers
pub mod FaultText
pub mod Places
