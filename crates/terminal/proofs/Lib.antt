pub mod Wording
pub mod Commands
pub mod Counting
pub mod Ranges
pub mod Sequence
pub mod Units
pub mod Decoding
