pub mod Covered
pub mod Forgotten
pub mod Gossiped
pub mod Limited
pub mod Logs
pub mod Parted
pub mod Weighed
