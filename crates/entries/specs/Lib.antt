pub mod Measured
pub mod Tallied
