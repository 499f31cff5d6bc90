pub mod Pairs
pub mod Room
pub mod Sound
pub mod Steps
