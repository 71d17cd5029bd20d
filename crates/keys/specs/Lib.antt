pub mod Laid
pub mod Lent
