pub mod Carrying
pub mod Changes
pub mod Forgetting
pub mod Kept
pub mod Sending
