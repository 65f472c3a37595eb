pub mod EntryLists
pub mod FormatLaws
pub mod Descents
pub mod Bounds
pub mod UsedLaws
pub mod Dependence
pub mod Together
mod TestRam
