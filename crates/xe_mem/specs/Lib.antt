pub mod Layout
pub mod Moves
pub mod Flat
