pub mod Putting
pub mod Scanning
