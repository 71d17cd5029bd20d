pub mod Run
pub mod Next
pub mod Still
pub mod First
pub mod Step
