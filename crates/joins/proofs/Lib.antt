pub mod Entries
pub mod Turns
pub mod Ensuring
pub mod Minimals
pub mod Passing
pub mod Composed
