pub mod Export
pub mod Once
