pub mod TwinActs
