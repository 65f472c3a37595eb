pub mod WidthLaws
pub mod Ram
pub mod Bytes
pub mod CalmLaws
