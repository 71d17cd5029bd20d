pub mod Emitting
pub mod Forming
pub mod Plainly
pub mod Midway
