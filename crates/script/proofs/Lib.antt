pub mod Turns
pub mod Says
pub mod Rows
pub mod Reported
