pub mod Pushes
pub mod Rules
pub mod Singles
