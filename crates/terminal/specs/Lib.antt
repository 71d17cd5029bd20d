pub mod Utf8
pub mod Number
pub mod Word
pub mod Pinned
