pub mod Ascending
pub mod WorldText
pub mod Playing
pub mod Printed
