pub mod Signed
pub mod StandIn
pub mod Unforged
pub mod Sizes
