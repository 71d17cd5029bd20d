pub mod Laid
pub mod House
pub mod Span
