pub mod Left
pub mod Outcome
pub mod Pairs
