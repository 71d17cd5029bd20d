pub mod Added
pub mod Words
