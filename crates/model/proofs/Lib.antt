pub mod Tables
pub mod Held
pub mod Rows
pub mod Promised
pub mod Worked
