pub mod Points
pub mod Ports
pub mod PortBitmap
pub mod SvmNames
pub mod SvmSet
