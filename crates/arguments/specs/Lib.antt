pub mod Run
pub mod Next
pub mod Split
pub mod Step
pub mod Once
