pub mod TableBounds
pub mod SegmentRules
pub mod LoadRows
pub mod CalmRows
pub mod BoundRows
