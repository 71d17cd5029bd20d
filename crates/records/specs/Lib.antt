pub mod Records
pub mod Flat
