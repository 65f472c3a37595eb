pub mod Prefix
pub mod Index
pub mod Compare
pub mod Transfer
pub mod Port
pub mod Element
pub mod Repeat
pub mod Rows
