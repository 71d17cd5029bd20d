pub mod Line
pub mod Passes
pub mod Works
pub mod Rows
pub mod Both
pub mod Turns
pub mod Starts
