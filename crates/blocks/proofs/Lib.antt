pub mod Flat
pub mod Faults
pub mod Entries
pub mod Deciding
