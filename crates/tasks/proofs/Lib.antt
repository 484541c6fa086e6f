mod Misreadings
mod Prefixes
mod Tellings
