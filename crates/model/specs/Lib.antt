pub mod Run
pub mod Informed
pub mod Promise
pub mod Cases
