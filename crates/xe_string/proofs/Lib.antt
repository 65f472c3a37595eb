pub mod ElementLaws
pub mod CalmRows
pub mod BoundRows
pub mod CountRows
