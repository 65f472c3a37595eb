pub mod Cuts
pub mod Moved
pub mod Frames
pub mod CalmRows
pub mod BoundRows
