pub mod Raises
pub mod BoundRows
pub mod Arrival
pub mod SoundRows
