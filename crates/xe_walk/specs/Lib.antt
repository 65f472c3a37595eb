pub mod Entry
pub mod Format
pub mod Rights
pub mod Walk
pub mod Laws
