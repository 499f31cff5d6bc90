pub mod Adopting
pub mod Joining
pub mod Pieces
pub mod Reading
pub mod Requests
pub mod Taking
pub mod Whole
