pub mod Adopted
pub mod Alike
pub mod Answers
pub mod Apart
pub mod Instance
pub mod Steps
