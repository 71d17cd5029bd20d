pub mod NoWorthless
