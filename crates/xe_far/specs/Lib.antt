pub mod Pointer
pub mod CodeSegment
pub mod Transfer
pub mod Outer
pub mod Return
pub mod Change
pub mod Rows
