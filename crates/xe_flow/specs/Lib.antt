pub mod Stack
pub mod Frame
pub mod Flags
pub mod Branch
pub mod Repeat
pub mod Interrupt
pub mod Calmly
pub mod Rows
