pub mod Pairs
pub mod Lining
