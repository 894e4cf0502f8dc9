pub mod Roster
pub mod World
