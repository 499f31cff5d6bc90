pub mod Known
pub mod Logs
pub mod Naming
pub mod Outcomes
pub mod Pieces
