pub mod Arrays
pub mod Joined
pub mod Keys
pub mod Messages
pub mod Parts
