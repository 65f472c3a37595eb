pub mod DescriptorTable
pub mod Load
pub mod Task
pub mod Query
pub mod Rows
pub mod Loaded
