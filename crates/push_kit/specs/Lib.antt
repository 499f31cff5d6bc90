pub mod Faults
pub mod Pushing
