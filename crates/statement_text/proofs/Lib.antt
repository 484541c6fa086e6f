mod Depths
mod Distinct
mod NoFloats
