pub mod Page
pub mod Show
