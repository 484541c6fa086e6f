mod Carrying
mod Cutting
mod Staying
