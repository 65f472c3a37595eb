pub mod Plain
pub mod Port
pub mod Msr
pub mod Cpuid
pub mod Control
pub mod Table
pub mod Rows
