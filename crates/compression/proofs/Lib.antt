pub mod Constants
pub mod Digits
pub mod Filled
pub mod Padded
pub mod Schedules
pub mod Steps
pub mod Turns
