pub mod Table
pub mod Part
pub mod Kind
