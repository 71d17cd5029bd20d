pub mod Letters
pub mod Script
pub mod Head
