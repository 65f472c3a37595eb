pub mod Attributes
pub mod Descriptors
pub mod Each
pub mod Accesses
pub mod Targets
pub mod Loads
pub mod Passing
pub mod Loading
