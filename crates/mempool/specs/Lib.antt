pub mod Caches
pub mod WorkerCache
pub mod inside
