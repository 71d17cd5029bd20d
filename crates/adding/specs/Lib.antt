pub mod Limits
pub mod Counts
pub mod Judged
pub mod Added
pub mod Most
