pub mod CalmRows
pub mod BoundRows
