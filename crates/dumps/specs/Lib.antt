pub mod Causes
pub mod Dumped
