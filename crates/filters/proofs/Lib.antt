pub mod Spans
mod Unions
pub mod Truths
mod Laws
pub mod Weighing
mod Reached
