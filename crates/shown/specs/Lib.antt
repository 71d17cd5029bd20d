pub mod Shown
pub mod Pinned
