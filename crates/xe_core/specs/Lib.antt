pub mod Step
pub mod Turn
pub mod Call
pub mod Tried
pub mod Rows
pub mod Emulate
pub mod Worked
