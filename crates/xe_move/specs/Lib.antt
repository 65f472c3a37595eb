pub mod Source
pub mod Sized
pub mod Moves
pub mod Extend
pub mod Condition
pub mod Flag
pub mod Rows
