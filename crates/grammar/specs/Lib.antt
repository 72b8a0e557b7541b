pub mod Words
pub mod Expr
pub mod Faults
pub mod Reading
pub mod Outcomes
pub mod Starts
