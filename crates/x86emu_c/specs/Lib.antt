pub mod Emulated
pub mod Named
pub mod Owned
pub mod Posted
pub mod Ran
pub mod Registers
pub mod Regions
pub mod Told
