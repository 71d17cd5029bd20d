pub mod Marking
pub mod Passing
pub mod Answering
