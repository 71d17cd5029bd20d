pub mod Word
pub mod Shape
pub mod Line
