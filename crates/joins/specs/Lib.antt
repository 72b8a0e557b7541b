pub mod Joins
pub mod Outcomes
