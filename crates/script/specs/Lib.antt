pub mod Setup
pub mod Roster
pub mod Scripts
pub mod Shown
pub mod Texts
