mod InBoth
mod JsonLines
mod Knowing
mod NoFloats
mod Same
