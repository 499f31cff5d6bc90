pub mod Defaults
pub mod Failing
pub mod Texts
