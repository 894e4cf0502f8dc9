pub mod Closing
pub mod Hmac
pub mod Keyed
pub mod Lengths
pub mod Taken
