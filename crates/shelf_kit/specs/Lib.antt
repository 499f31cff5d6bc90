pub mod Lends
pub mod Shelved
pub mod Shelving
pub mod Walks
