pub mod Deeds
pub mod Members
pub mod Mixed
pub mod Rounds
pub mod Rows
pub mod Schedule
pub mod Taken
pub mod Totals
