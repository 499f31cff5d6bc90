pub mod Feeding
pub mod Finishing
pub mod Matching
pub mod Owning
pub mod Sharing
pub mod Sound
